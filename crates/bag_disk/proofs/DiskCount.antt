-- Distinct paths of a disk are no more than what stands on it.
use Rattle.bag_disk.proofs.Common.{◌≡◌, ℕ, ◌≤◌, Bool, true, false, List, [], ◌∷◌, length, is_some, ap, sym, ◌∙◌, ◌++◌}
use Rattle.bag_disk.proofs.Common.{arith, Contains, get-remove, len-remove, AllByRecursion, IsPermutation, eq_by_cmp}
use Rattle.bag_disk.proofs.Common.{Less, nat_list_cmp_total, Contains-append_right, Contains-push, Contains-append_left}
use Rattle.bag_disk.proofs.Common.{false≢true, text_cmp, length-map, Contains-permutation, IsPermutation-sym, FileEntry}
use Rattle.bag_disk.proofs.Common.{Nodes, node, Has, IsFolder, entry_count, files_and_folders, is_plain_found, AreThere}
use Rattle.bag_disk.proofs.Common.{AreFolders, walked_paths, Node}
use Rattle.std.specs.FinMap as fin
use Rattle.std.specs.List.Sorted.{IsStrictlySortedBy}
use Rattle.std.specs.Cmp.{eq_by_cmp_equiv}
use Rattle.bag_disk.proofs.FilesAndFolders.{stands_alone}
use Rattle.bag_disk.proofs.WholeWalk.{path_filed}
use Rattle.bag_disk.proofs.DiskSteps.{all_with, contains_first, contains_cases, contains_none}

above : (k : List ℕ) (ps : List (List ℕ)) (p : List ℕ) → AllByRecursion (λ y. text_cmp k y ≡ Less) ps → Contains ps p
    → eq_by_cmp text_cmp p k ≡ false
above k [] p h c = absurd (contains_none p c)
above k (q ∷ ps) p h c =
    grind (arith, contains_cases q ps p c, (eq_by_cmp_equiv nat_list_cmp_total).symm p k, above k ps p h.1)

some_there : (nodes : Nodes) (k : List ℕ) → is_some (node nodes k) ≡ true → 1 ≤ fin.len nodes
some_there nodes k here = grind (arith, fin.empty_of_len nodes, fin.get-empty {X = Node} text_cmp k)

-- so a count above the limit means too many entries
pub distinct_fit : (ps : List (List ℕ)) (nodes : Nodes) → IsStrictlySortedBy text_cmp ps
    → ((p : List ℕ) → Contains ps p → Has nodes p) → length ps ≤ fin.len nodes
unfolding IsStrictlySortedBy
distinct_fit [] nodes s h = omega arith
distinct_fit (k ∷ ps) nodes s h =
    let fewer =
    distinct_fit ps (fin.remove nodes k) s.1 (λ p c.
    grind (
      arith,
      get-remove {X = Node} nat_list_cmp_total nodes k p,
      above k ps p s.0 c,
      h p (Contains-append_right (k ∷ []) ps p c),
    )) in
    grind (arith, fewer, h k (contains_first k ps), len-remove nat_list_cmp_total nodes k, some_there nodes k)

-- files and folders in strict order, all of which stand there, are no more than the files and folders that stand there
pub found_fit : (nodes : Nodes) (found sorted : List FileEntry) → IsPermutation found sorted
    → IsStrictlySortedBy text_cmp (walked_paths sorted) → AreThere nodes found → length sorted ≤ entry_count nodes
found_fit nodes found sorted permuted ascending there =
    let fit = distinct_fit (walked_paths sorted) (files_and_folders nodes) ascending (λ p h.
    let f = path_filed sorted p h in
    stands_alone nodes p
    (ap is_plain_found (ap (node nodes) (sym f.2))
    ∙ there f.0 (Contains-permutation sorted found f.0 (IsPermutation-sym found sorted permuted) f.1))) in
    omega (arith, fit, length-map sorted (λ file. file.path))

folder_there : (nodes : Nodes) (path : List ℕ) → (path ≡ [] → false ≡ true) → IsFolder nodes path
    → is_plain_found (node nodes path) ≡ true
folder_there nodes path none is = grind (arith, false≢true)

abbrev Both : Nodes → List FileEntry → List (List ℕ) → Type 0
Both nodes found folders = AreThere nodes found × AreFolders nodes folders

-- a folder was taken from the folders
pub folder_taken : (nodes : Nodes) (found : List FileEntry) (folders rest : List (List ℕ)) (path : List ℕ)
    → folders ≡ rest ++ path ∷ [] → Both nodes found folders → Both nodes found rest
folder_taken nodes found folders rest path are both =
    (both.0, λ f h. both.1 f (rw are (Contains-append_left rest (path ∷ []) f h)))

-- a folder was taken from the folders and put with the files
pub folder_put : (nodes : Nodes) (found found_after : List FileEntry) (folders rest : List (List ℕ)) (path : List ℕ)
    (b : Bool) → b ≡ false → (path ≡ [] → b ≡ true) → folders ≡ rest ++ path ∷ []
    → found_after ≡ found ++ record { path = path; size = 0 } ∷ [] → Both nodes found folders
    → Both nodes found_after rest
folder_put nodes found found_after folders rest path b isnt none are after both =
    let entry : FileEntry = record { path = path; size = 0 } in
    let here : is_plain_found (node nodes path) ≡ true =
    grind (arith, folder_there nodes path, both.1 path (rw are (Contains-push rest path))) in (
      rw after (all_with (λ x. is_plain_found (node nodes x.path) ≡ true) found entry both.0 here),
      (folder_taken nodes found folders rest path are both).1,
    )
