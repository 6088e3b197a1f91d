-- The bag below the base folder of a disk, and its listing.
use Rattle.bag_disk.proofs.Common.{arith, ◌≡◌, ℕ, Bool, true, false, List, [], ◌∷◌, length, Some, None, is_some, codes}
use Rattle.bag_disk.proofs.Common.{IsTrue, Any, refl, ap, sym, ◌∙◌, ◌⊎◌, ◌↔◌, inl, inr, Contains, option_map}
use Rattle.bag_disk.proofs.Common.{IsPermutation, Contains-permutation, IsPermutation-map, IsPermutation-sym, Nodes}
use Rattle.bag_disk.proofs.Common.{node, Has, IsDisk, bytes_of, is_folder_node, File, Folder, file_of_disk}
use Rattle.bag_disk.proofs.Common.{folder_of_disk, Walked, walked_paths, FileEntry, one_text, text_itself, same_test}
use Rattle.bag_disk.proofs.Common.{Contains-append_right}
use Rattle.std.specs.Str.{bytes_eq}
use Rattle.bag_tree.specs.Listing.{IsListingOf, size_at, entry_at}
use Rattle.bag_disk.specs.DiskBag.{bag_of}
use Rattle.bag_tree.specs.declared.listing.Listing.{Listing}
use Rattle.bag_disk.proofs.DiskSteps.{contains_none, contains_first, contains_cases}

-- the first entry of a path
abbrev Found : List FileEntry → List ℕ → Type 0
Found files path = ((e : FileEntry) × Contains files e × (e.path ≡ path) × (entry_at files path ≡ Some e))
    ⊎ ((entry_at files path ≡ None) × (Contains (walked_paths files) path → ⊥))

found_at : (files : List FileEntry) (path : List ℕ) → Found files path
found_at [] path = inr (refl, λ h. contains_none path h)
found_at (e ∷ files) path = elim (bytes_eq e.path path) as (λ b. bytes_eq e.path path ≡ b → Found (e ∷ files) path) [
  | true ↦ λ same.
      inl (e, contains_first e files, sym (one_text path e.path (sym (same_test e.path path) ∙ same)), rw same refl)
  | false ↦ λ other. elim (found_at files path) [
    | inl f ↦ inl (f.0, Contains-append_right (e ∷ []) files f.0 f.1, f.2, rw other f.3)
    | inr none ↦ inr (
      rw other none.0,
      λ h.
          grind (arith, contains_cases e.path (walked_paths files) path h, none.1, other, same_test, text_itself),
    )
  ]
] refl

-- what stands there was found by a whole walk
pub found_or_listed : (nodes : Nodes) (files : List FileEntry) (listed : List (List ℕ)) (path : List ℕ)
    → Walked nodes files [] listed [] → Has nodes path → Contains (walked_paths files) path ⊎ Contains listed path
found_or_listed nodes files listed path walked has = grind (arith, contains_none)

-- a whole walk saw each file
file_seen : (nodes : Nodes) (files : List FileEntry) (listed : List (List ℕ)) (path bytes : List ℕ) → IsDisk nodes
    → Walked nodes files [] listed [] → node nodes path ≡ Some (File bytes) → Contains (walked_paths files) path
file_seen nodes files listed path bytes disk walked is =
    let has : Has nodes path = ap is_some is in
    grind (arith, found_or_listed nodes files listed path walked has, disk.paths path has, walked.were_folders path)

sizes : (nodes : Nodes) (files found : List FileEntry) (listed : List (List ℕ)) (path : List ℕ) → IsDisk nodes
    → Walked nodes files [] listed [] → IsPermutation files found
    → size_at found path ≡ option_map length (bytes_of (node nodes path))
sizes nodes files found listed path disk walked permuted = elim (found_at found path) [
  | inl f ↦ let there = walked.are_files f.0
      (Contains-permutation found files f.0 (IsPermutation-sym files found permuted) f.1)
      in grind (arith, f.3, f.2, there.1, there.2)
  | inr none ↦
      let unseen : (bytes : List ℕ) → node nodes path ≡ Some (File bytes) → ⊥ = λ bytes is.
      none.1 (Contains-permutation (walked_paths files) (walked_paths found) path
      (IsPermutation-map (λ (file : FileEntry). file.path) files found permuted)
      (file_seen nodes files listed path bytes disk walked is)) in
      grind (arith, none.0, unseen)
]

pub path_filed : (files : List FileEntry) (path : List ℕ) → Contains (walked_paths files) path
    → (e : FileEntry) × Contains files e × (e.path ≡ path)
path_filed [] path h = absurd (contains_none path h)
path_filed (e ∷ files) path h = elim (contains_cases e.path (walked_paths files) path h) [
  | inl is ↦ (e, contains_first e files, is)
  | inr within ↦ let f = path_filed files path within in (f.0, Contains-append_right (e ∷ []) files f.0 f.1, f.2)
]

abbrev payload : List ℕ
payload = codes "data"

-- a folder of the base folder was listed
payload_listed : (nodes : Nodes) (files : List FileEntry) (listed : List (List ℕ)) → Walked nodes files [] listed []
    → node nodes payload ≡ Some Folder → Contains listed payload
payload_listed nodes files listed walked is = elim (found_or_listed nodes files listed payload walked (ap is_some is)) [
  | inl filed ↦ let f = path_filed files payload filed in grind (arith, f.2, (walked.are_files f.0 f.1).1)
  | inr old ↦ old
]

has_data_there : (nodes : Nodes) (files : List FileEntry) (listed : List (List ℕ)) (b : Bool) → IsDisk nodes
    → Walked nodes files [] listed [] → IsTrue b ↔ Any (λ folder. folder ≡ codes "data") listed
    → b ≡ is_folder_node (node nodes (codes "data"))
has_data_there nodes files listed true disk walked is =
    let any = is.0 refl in grind (arith, walked.were_folders any.1 (any.0, any.2, any.3), any.4)
has_data_there nodes files listed false disk walked is = grind (arith, payload_listed)

-- the listing of a whole walk is that of the disk's bag
pub whole_listing : (nodes : Nodes) (files : List FileEntry) (listed : List (List ℕ)) (listing : Listing) → IsDisk nodes
    → Walked nodes files [] listed []
    → IsPermutation files listing.files → IsTrue listing.has_data ↔ Any (λ folder. folder ≡ codes "data") listed
    → IsListingOf (bag_of nodes) listing
whole_listing nodes files listed listing disk walked permuted data_is = record {
  files =
      λ path. sizes nodes files listing.files listed path disk walked permuted
      ∙ ap (option_map length) (sym (file_of_disk nodes path));
  has_data =
      has_data_there nodes files listed listing.has_data disk walked data_is
      ∙ sym (folder_of_disk nodes (codes "data") refl);
}
