-- The faults that manifests name files that aren't there, and that they don't name payload files.
use Rattle.bag_stages.proofs.Common.{◌≡◌, ℕ, List, [], true, false, None, Some, sym, ◌∙◌, subst, Contains, IsListOf}
use Rattle.bag_stages.proofs.Common.{Code, PayloadFileNotListed, nothing_listed, Kind, Payload, ManifestEntry, Bag}
use Rattle.bag_stages.proofs.Common.{file, has_file, LacksFile, FileEntry, fault_cmp, Fault, rules_in, entry_paths}
use Rattle.bag_stages.proofs.Common.{AreByPath, IsManifestNamed, IsReadOf, AreFilesOfBag, paths_of, Manifest}
use Rattle.bag_stages.proofs.Common.{file_listed, listed_file, manifest_of, Names, missing_code, IsFileLeftOutByOne}
use Rattle.bag_stages.proofs.Common.{IsMissing, IsNamedExactly, IsOfPathAmong, IsLeftOutAmong, IsFileNamedByNone}
use Rattle.bag_stages.proofs.Common.{Alg, IsPathNamedByNone}
use Rattle.bag_stages.proofs.ReadManifest.{by_path, names_entry, entry_names, names_nothing, is_absent, is_there}
use Rattle.bag_stages.proofs.ReadManifest.{of_alg}
use Rattle.bag_stages.proofs.ByPath.{in_other_words}
use Rattle.bag_stages.proofs.HasLists.{false_unless}

module _ (bag : Bag) (kind : Kind) (alg : Alg) where
  -- the manifest that was read
  pub read_missing : (m : Manifest) (code : Code) (entries : List ManifestEntry) (files : List FileEntry)
      (faults : List Fault)
      → IsReadOf (IsManifestNamed (rules_in bag) kind alg) (file bag (manifest_of kind alg)) (Some m)
      → code ≡ missing_code kind → entries ≡ m.entries → AreFilesOfBag bag files
      → (AreByPath entries
      → IsListOf fault_cmp
      (IsOfPathAmong code (Some alg) (λ path. ¬ (Contains (paths_of files) path)) (entry_paths entries)) faults)
      → IsListOf fault_cmp (IsMissing bag kind alg) faults
  read_missing m code entries files faults read is same listed list =
      let IsAbsent : List ℕ → Type 0 = λ path. ¬ (Contains (paths_of files) path) in
      let found : AreByPath m.entries
      → IsListOf fault_cmp (IsOfPathAmong (missing_code kind) (Some alg) IsAbsent (entry_paths m.entries)) faults =
      rw (is, same) at list in
      in_other_words (missing_code kind) (Some alg) IsAbsent (entry_paths m.entries)
      (λ path. Names bag kind alg path × LacksFile bag path) faults
      (λ path c lacks. (
        entry_names bag kind alg m read path c,
        false_unless (has_file bag path) (λ has. lacks (file_listed bag files path listed has)),
      ))
      (λ path h. (
        names_entry bag kind alg m read path h.0,
        λ c.
            let clash : false ≡ true = sym h.1 ∙ listed_file bag files path listed c in cc,
      ))
      (found (by_path bag kind alg m read))

  -- one that isn't there names nothing
  pub no_missing : IsReadOf (IsManifestNamed (rules_in bag) kind alg) (file bag (manifest_of kind alg)) None
      → IsListOf fault_cmp (IsMissing bag kind alg) []
  no_missing read =
      nothing_listed fault_cmp (IsMissing bag kind alg) (λ f h. names_nothing bag kind alg read f.path h.1.0)

module _ (bag : Bag) (alg : Alg) where
  -- the payload manifest that was read
  pub read_unlisted : (m : Manifest) (files : List FileEntry) (faults : List Fault)
      → IsReadOf (IsManifestNamed (rules_in bag) Payload alg) (file bag (manifest_of Payload alg)) (Some m)
      → AreFilesOfBag bag files
      → (AreByPath m.entries → IsListOf fault_cmp (IsLeftOutAmong m.alg m.entries (paths_of files)) faults)
      → IsListOf fault_cmp (IsFileLeftOutByOne bag alg) faults
  read_unlisted m files faults read listed list =
      in_other_words PayloadFileNotListed (Some alg) _ (paths_of files) _ faults
      (λ path c h. (
        (listed_file bag files path listed c, h.0),
        (is_there bag Payload alg m read, (λ named. h.1 (names_entry bag Payload alg m read path named))),
      ))
      (λ path h. (
        file_listed bag files path listed h.0.0,
        (h.0.1, (λ c. h.1.1 (entry_names bag Payload alg m read path c))),
      ))
      (subst (λ a. IsListOf fault_cmp (IsLeftOutAmong a m.entries (paths_of files)) faults)
      (of_alg bag Payload alg m read) (list (by_path bag Payload alg m read)))

  -- one that isn't there needs to name nothing
  pub no_unlisted : IsReadOf (IsManifestNamed (rules_in bag) Payload alg) (file bag (manifest_of Payload alg)) None
      → IsListOf fault_cmp (IsFileLeftOutByOne bag alg) []
  no_unlisted read =
      nothing_listed fault_cmp (IsFileLeftOutByOne bag alg) (λ f h. is_absent bag Payload alg read h.1.1.0)

-- payload files that no payload manifest names: those of the listed files are those of the bag
pub files_named_by_none : (bag : Bag) (files : List FileEntry) (faults : List Fault) → AreFilesOfBag bag files
    → IsListOf fault_cmp (IsOfPathAmong PayloadFileNotListed None (IsPathNamedByNone bag) (paths_of files)) faults
    → IsListOf fault_cmp (IsFileNamedByNone bag) faults
files_named_by_none bag files faults listed list =
    in_other_words PayloadFileNotListed None (IsPathNamedByNone bag) (paths_of files) _ faults
    (λ path c h. ((listed_file bag files path listed c, h.0), h.1))
    (λ path h. (file_listed bag files path listed h.0.0, (h.0.1, h.1)))
    list

-- a manifest that names exactly the payload names each
pub none_unnamed : (bag : Bag) (alg : Alg) → IsNamedExactly bag alg → IsListOf fault_cmp (IsFileNamedByNone bag) []
none_unnamed bag alg exact =
    nothing_listed fault_cmp (IsFileNamedByNone bag) (λ f h. h.1.1 (alg, exact.named f.path h.1.0))
