-- A bag in which something was moved is a bag.
use Rattle.bag_memory.proofs.Common.{◌≡◌, ℕ, ◌<◌, slice_index, true, List, [], ◌∷◌, Some, is_some, refl, ap, sym, ◌∙◌}
use Rattle.bag_memory.proofs.Common.{append_assoc, arith, find, is_sorted, entries_sorted, get-entries, get-insert}
use Rattle.bag_memory.proofs.Common.{get-empty, list_all, nat_list_cmp_total, and_parts, and_from, false≢true}
use Rattle.bag_memory.proofs.Common.{IsUtf8-append, IsUtf8-from_ascii, IsUtf8-from_is_utf8, is_utf8-from_IsUtf8}
use Rattle.bag_memory.proofs.Common.{text_cmp, slash, components, is_component, is_base_name, under, Bag, file}
use Rattle.bag_memory.proofs.Common.{has_folder, files_of, PassesAsBag, is_text_path, is_text_name, are_bytes, Files}
use Rattle.bag_memory.proofs.Common.{move_in, rename_folder, is_within, renamed, with_renamed, moved, one_text}
use Rattle.bag_memory.proofs.Common.{text_itself, insert, contains-remove, empty}
use Rattle.std.specs.FinMap as fin
use Rattle.std.specs.FinSet as set
use Rattle.bag_tree.proofs.PathEntries.{found_later, t_true}
use Rattle.std.proofs.lemmas.List.Splits.{slice_split_none, slice_split_at}
use Rattle.bag_tree.proofs.Within.{within_cases, under_within, goes_itself, goes_under, stays}
use Rattle.bag_memory.proofs.MemoryFiles.{some_from}
use Rattle.bag_tree.proofs.Parents.{base_not_under, first-under, is_slash, name_has_none, text_under}
use Rattle.bag_memory.proofs.InMemory.{folder_stays, folder_cases, folder_is_there}

one : (P : List ℕ → List ℕ → Type 0) (files : Files) (k v q c : List ℕ)
    → ((q c : List ℕ) → fin.get files q ≡ Some c → P q c) → P k v
    → fin.get (fin.insert files k v) q ≡ Some c → P q c
one P files k v q c old here is = grind (arith, get-insert nat_list_cmp_total files k v q, one_text)

-- what holds of each moved file holds of all files then
kept : (P : List ℕ → List ℕ → Type 0) (from to : List ℕ) (files : Files) (es : List (List ℕ × List ℕ))
    → is_sorted text_cmp es ≡ true
    → ((q c : List ℕ) → fin.get files q ≡ Some c → P q c)
    → ((k c : List ℕ) → find text_cmp k es ≡ Some c → P (renamed from to k) c)
    → (q c : List ℕ) → fin.get (with_renamed from to files es) q ≡ Some c → P q c
kept P from to files [] sorted old each q c is = old q c is
kept P from to files (e ∷ es) sorted old each q c is =
    kept P from to (fin.insert files (renamed from to e.0) e.1) es (and_parts _ _ sorted).1 (λ q c at.
    grind (arith, one P files (renamed from to e.0) e.1 q c old, text_itself))
    (λ k c found. each k c (found_later e es k c (and_parts _ _ sorted).0 found)) q c is

slash_is_ascii : (i : ℕ) → slice_index (slash ∷ []) i < 128
slash_is_ascii i = grind arith

parts_under : (top rest : List ℕ) → is_base_name top ≡ true → components (under top rest) ≡ top ∷ components rest
parts_under top rest base = slice_split_at is_slash top slash rest (name_has_none top base) refl

name_is_component : (name : List ℕ) → is_base_name name ≡ true → is_component name ≡ true
name_is_component name base = grind (arith, slice_split_none, is_slash, name_has_none, and_parts)

-- a path under a folder
under_is_path : (folder path : List ℕ) → is_text_name folder ≡ true → is_text_path path ≡ true
    → is_text_path (under folder path) ≡ true
under_is_path folder path name is =
    let parts = and_parts _ _ name in
    let rests = and_parts _ _ is in
    and_from _ _ (ap (list_all is_component) (parts_under folder path parts.0)
    ∙ and_from _ _ (name_is_component folder parts.0) rests.0)
    (is_utf8-from_IsUtf8 _
    (IsUtf8-append folder _ (IsUtf8-from_is_utf8 folder parts.1)
    (IsUtf8-append (slash ∷ []) path (IsUtf8-from_ascii _ slash_is_ascii) (IsUtf8-from_is_utf8 path rests.1))))

-- what is under one name may be under another
other_name : (from to rest : List ℕ) → is_base_name from ≡ true → is_text_name to ≡ true
    → is_text_path (under from rest) ≡ true → is_text_path (under to rest) ≡ true
other_name from to rest base name is =
    let parts = and_parts _ _ is in
    under_is_path to rest name
    (and_from _ _ (and_parts _ _ (sym (ap (list_all is_component) (parts_under from rest base)) ∙ parts.0)).1
    (is_utf8-from_IsUtf8 rest (text_under from rest (IsUtf8-from_is_utf8 (under from rest) parts.1))))

-- another folder stays
stays_there : (folders : set.FinSet text_cmp) (top q : List ℕ) → (q ≡ top → ⊥) → set.contains folders q ≡ true
    → set.contains (set.remove folders top) q ≡ true
stays_there folders top q differ has = grind (arith, set.contains-remove nat_list_cmp_total folders top q, one_text)

record IsGood (folders : set.FinSet text_cmp) (path content : List ℕ) : Type 0 where
  path_is : is_text_path path ≡ true
  bytes : are_bytes content ≡ true
  parent : (top rest : List ℕ) → is_base_name top ≡ true → path ≡ under top rest → set.contains folders top ≡ true

good : (bag : Bag) (folders : set.FinSet text_cmp) (from to path content : List ℕ)
    → (is_within from path ≡ true → is_text_path path ≡ true → is_text_path (renamed from to path) ≡ true)
    → (is_within from path ≡ true → (first rest : List ℕ) → is_base_name first ≡ true
    → renamed from to path ≡ under first rest → set.contains folders first ≡ true)
    → ((q : List ℕ) → (q ≡ from → ⊥) → has_folder bag q ≡ true → set.contains folders q ≡ true)
    → PassesAsBag bag → file bag path ≡ Some content → IsGood folders (renamed from to path) content
good bag folders from to path content inside below others passes at =
    grind (arith, stays, false≢true, one, under_within)

passes_from : (bag : Bag) (folders : set.FinSet text_cmp) (from to : List ℕ)
    → ((path content : List ℕ) → file bag path ≡ Some content → IsGood folders (renamed from to path) content)
    → ((q : List ℕ) → set.contains folders q ≡ true → is_text_name q ≡ true)
    → PassesAsBag (record { files = moved from to bag.files; folders = folders })
passes_from bag folders from to goods names =
    let is_good = kept (IsGood folders) from to fin.empty (files_of bag) (t_true _ (entries_sorted bag.files))
    (λ q c is. absurd (false≢true (ap is_some (sym (get-empty text_cmp q) ∙ is)))) (λ k c found.
    goods k c (get-entries bag.files k ∙ found)) in
    record {
      paths = λ q has. let at = some_from (fin.get (moved from to bag.files) q) has in (is_good q at.0 at.1).path_is;
      names = names;
      parents = λ first rest is has.
          let at =
          some_from (fin.get (moved from to bag.files) (under first rest)) has
          in (is_good (under first rest) at.0 at.1).parent first rest is refl;
      bytes = λ q c at. (is_good q c at).bytes;
    }

-- where a path goes that is moved into a folder
goes_in : (top folder path : List ℕ) → is_within top path ≡ true
    → renamed top (under folder top) path ≡ under folder path
goes_in top folder path within = grind (arith, within_cases, goes_itself, goes_under, append_assoc)

one_folder : (folder path first rest : List ℕ) → is_base_name folder ≡ true → is_base_name first ≡ true
    → under folder path ≡ under first rest → folder ≡ first
one_folder folder path first rest is first_is same = grind (arith, first-under folder path, first-under first rest)

-- a bag with a name moved into a folder is a bag
pub move_passes : (bag : Bag) (top folder : List ℕ) → is_text_name folder ≡ true → (folder ≡ top → ⊥)
    → has_folder bag folder ≡ true → PassesAsBag bag → PassesAsBag (move_in top folder bag)
move_passes bag top folder name differ has passes =
    let folders = set.remove bag.folders top in
    let new = under folder top in
    let goods : (path content : List ℕ) → file bag path ≡ Some content → IsGood folders (renamed top new path) content =
    λ path content at. good bag folders top new path content
    (λ within is. grind (arith, goes_in, under_is_path))
    (λ within first rest first_is same. grind (arith, goes_in, one_folder, stays_there, and_parts))
    (λ q differ has. stays_there bag.folders top q differ has) passes at in
    passes_from bag folders top new goods (λ q has.
    grind (arith, passes.names q, set.contains-remove nat_list_cmp_total bag.folders top q))

-- a bag with another name for a folder is a bag
pub rename_passes : (bag : Bag) (from to : List ℕ) → is_base_name from ≡ true → is_text_name to ≡ true → (to ≡ from → ⊥)
    → PassesAsBag bag → PassesAsBag (rename_folder from to bag)
rename_passes bag from to from_is name differ passes =
    let folders = set.remove (set.insert bag.folders to) from in
    let goods : (path content : List ℕ) → file bag path ≡ Some content → IsGood folders (renamed from to path) content =
    λ path content at. good bag folders from to path content
    (λ within is. grind (arith, within_cases, goes_itself, goes_under, other_name, and_parts, and_from))
    (λ within first rest first_is same.
    grind (
      arith,
      within_cases,
      goes_itself,
      goes_under,
      base_not_under,
      one_folder,
      and_parts,
      stays_there (set.insert bag.folders to) from to differ,
      folder_is_there bag.folders to,
    ))
    (λ q differ has. stays_there (set.insert bag.folders to) from q differ (folder_stays bag.folders to q has)) passes
    at in
    passes_from bag folders from to goods (λ q has.
    grind (
      arith,
      folder_cases (λ q. is_text_name q ≡ true) bag.folders to q name (passes.names q),
      set.contains-remove nat_list_cmp_total (set.insert bag.folders to) from q,
    ))
