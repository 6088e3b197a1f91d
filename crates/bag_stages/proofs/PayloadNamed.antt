-- Manifests that name the payload's files and no other.
use Rattle.bag_stages.proofs.Common.{◌≡◌, ◌≢◌, ◌↔◌, Bool, ◌<◌, ◌≤◌, ◌+◌, inl, inr, ℕ, List, [], ◌∷◌, ◌++◌, true, false}
use Rattle.bag_stages.proofs.Common.{cond, length, take, drop, get_or, Some, None, sym, ap, ◌∙◌, subst, append_assoc}
use Rattle.bag_stages.proofs.Common.{append-nil, take-append-drop, IsTrue, ◌==◌, arith, nat_tests, append_cancel_left}
use Rattle.bag_stages.proofs.Common.{map-append, filter-append, IsStrictlySortedBy-filter, nat_list_cmp_total, text_cmp}
use Rattle.bag_stages.proofs.Common.{is_payload_path, Alg, PayloadFileMissing, PayloadFileNotListed, same_lists}
use Rattle.bag_stages.proofs.Common.{Payload, Tag, ManifestEntry, Bag, file, IsOrdered, FileEntry, Fault, rules_in}
use Rattle.bag_stages.proofs.Common.{entry_paths, IsManifestNamed, IsReadOf, AreFilesOfBag, paths_of, Manifest}
use Rattle.bag_stages.proofs.Common.{file_listed, listed_file, paths_ascend, kept, passed, take_one_more, manifest_of}
use Rattle.bag_stages.proofs.Common.{Names, IsMissing, IsV10LeftOutByOne, IsWrong, RestStartsAfter, IsExact}
use Rattle.bag_stages.proofs.Common.{IsNamedExactly, payload_paths, IsPayloadNotFirst}
use Rattle.std.proofs.Common.{if◌then◌else◌, take_all}
use Rattle.bag_stages.proofs.NamesByKind.{names_by_kind}
use Rattle.bag_stages.proofs.ReadManifest.{by_path, entry_names, is_absent, is_there, names_entry}

of_payload : (b : Bool) → Payload ≡ (if b then Payload else Tag) → b ≡ true
of_payload b e = grind arith

-- the names before the rest are those of the payload files among these
abbrev pub AreBefore : List (List ℕ) → List (List ℕ) → List (List ℕ) → Type 0
AreBefore names files rest = names ≡ payload_paths files ++ rest

payload_more : (files : List (List ℕ)) (path : List ℕ) → is_payload_path path ≡ true
    → payload_paths (files ++ path ∷ []) ≡ payload_paths files ++ path ∷ []
payload_more files path is =
    filter-append is_payload_path files (path ∷ []) ∙ ap (λ b. payload_paths files ++ cond b (path ∷ []) []) is

-- one file more
before_more : (names files rest after : List (List ℕ)) (path : List ℕ) → AreBefore names files rest
    → RestStartsAfter rest path after → AreBefore names (files ++ path ∷ []) after
before_more names files rest after path before (inl (is, e)) = grind (arith, append_assoc, payload_more)
before_more names files rest after path before (inr (not, e)) = grind (arith, filter-append, append-nil)

paths_more : (files : List FileEntry) (i : ℕ) (file : FileEntry) → i < length files → file ≡ get_or files i file
    → paths_of (take (i + 1) files) ≡ paths_of (take i files) ++ file.path ∷ []
paths_more files i file within here =
    ap paths_of (take_one_more files i file within here)
    ∙ map-append (λ (e : FileEntry). e.path) (take i files) (file ∷ [])

module _ (names rest : List (List ℕ)) (files : List FileEntry) (i : ℕ) (file : FileEntry) (within : i < length files)
    (here : file ≡ get_or files i file) where
  pub before_next : (after : List (List ℕ)) → AreBefore names (paths_of (take i files)) rest
      → RestStartsAfter rest file.path after → AreBefore names (paths_of (take (i + 1) files)) after
  before_next after before on =
      subst (λ paths. AreBefore names paths after) (sym (paths_more files i file within here))
      (before_more names (paths_of (take i files)) rest after file.path before on)

  -- where the names stop they are others
  pub others_there : AreBefore names (paths_of (take i files)) rest → IsPayloadNotFirst rest file.path
      → names ≢ payload_paths (paths_of files)
  others_there before stops same =
      let front = payload_paths (paths_of (take i files)) in
      let behind = payload_paths (paths_of (drop (i + 1) files)) in
      let parts : paths_of files ≡ paths_of (take (i + 1) files) ++ paths_of (drop (i + 1) files) =
      ap paths_of (sym (take-append-drop (i + 1) files))
      ∙ map-append (λ (e : FileEntry). e.path) (take (i + 1) files) (drop (i + 1) files) in
      let all : payload_paths (paths_of files) ≡ (front ++ file.path ∷ []) ++ behind =
      ap payload_paths parts
      ∙ filter-append is_payload_path (paths_of (take (i + 1) files)) (paths_of (drop (i + 1) files))
      ∙ ap (λ xs. xs ++ behind)
      (ap payload_paths (paths_more files i file within here)
      ∙ payload_more (paths_of (take i files)) file.path stops.0) in
      stops.1 behind (append_cancel_left front rest (file.path ∷ behind)
      (sym before ∙ same ∙ all ∙ append_assoc front (file.path ∷ []) behind))

-- after all files they are the same where nothing is left
module _ (names : List (List ℕ)) (files : List FileEntry) (i : ℕ) (end : length files ≤ i) (none_left : Bool) where
  pub all_before : (rest : List ManifestEntry) → AreBefore names (paths_of (take i files)) (entry_paths rest)
      → none_left ≡ (length rest == 0)
      → IsTrue none_left ↔ (names ≡ payload_paths (paths_of files))
  all_before [] before is = grind (arith, append-nil, take_all)
  all_before (entry ∷ rest) before is =
      let front = payload_paths (paths_of files) in
      let more : (length (entry ∷ rest) == 0) ≡ false = grind (arith, nat_tests) in
      let all : names ≡ front ++ entry_paths (entry ∷ rest) =
      before ∙ ap (λ xs. payload_paths (paths_of xs) ++ entry_paths (entry ∷ rest)) (take_all i files end) in
      grind (arith, append_cancel_left front [] (entry_paths (entry ∷ rest)), append-nil front)

module _ (bag : Bag) (alg : Alg) where
  -- the payload manifest that was read
  module _ (m : Manifest) (files : List FileEntry)
      (read : IsReadOf (IsManifestNamed (rules_in bag) Payload alg) (file bag (manifest_of Payload alg)) (Some m))
      (listed : AreFilesOfBag bag files) where
    pub read_exactly : entry_paths m.entries ≡ payload_paths (paths_of files) → IsExact bag alg
    read_exactly same = (
      is_there bag Payload alg m read,
      record {
        listed = λ path named.
            grind (
              arith,
              names_entry bag Payload alg m read path named,
              kept is_payload_path (paths_of files) path,
              listed_file bag files path listed,
            );
        named = λ path h.
            grind (
              arith,
              entry_names bag Payload alg m read path,
              passed is_payload_path (paths_of files) path h.1,
              file_listed bag files path listed h.0,
            );
      },
    )

    is_payload_name : (path : List ℕ) → Names bag Payload alg path → is_payload_path path ≡ true
    is_payload_name path named = of_payload (is_payload_path path) (names_by_kind bag Payload alg path named)

    pub exactly_read : IsOrdered files → IsExact bag alg → entry_paths m.entries ≡ payload_paths (paths_of files)
    exactly_read ordered (there, exact) =
        same_lists text_cmp nat_list_cmp_total (entry_paths m.entries) (payload_paths (paths_of files))
        (paths_ascend (λ (e : ManifestEntry). e.path) m.entries (by_path bag Payload alg m read))
        (IsStrictlySortedBy-filter text_cmp is_payload_path (paths_of files) ordered.ascending)
        (λ path c. grind (
          arith,
          entry_names bag Payload alg m read path c,
          passed is_payload_path (paths_of files) path,
          is_payload_name path,
          file_listed bag files path listed,
          exact.listed path,
        ))
        (λ path c. grind (
          arith,
          kept is_payload_path (paths_of files) path c,
          names_entry bag Payload alg m read path,
          exact.named path,
          listed_file bag files path listed,
        ))

  -- it isn't there
  pub none_exact : IsReadOf (IsManifestNamed (rules_in bag) Payload alg) (file bag (manifest_of Payload alg)) None
      → ¬ (IsExact bag alg)
  none_exact read exact = is_absent bag Payload alg read exact.0

  -- it is wrong about no file
  pub nothing_wrong : IsNamedExactly bag alg → (f : Fault) → ¬ (IsWrong bag alg f)
  nothing_wrong exact f h = grind (arith, exact.listed f.path, exact.named f.path)

  pub told : (f : Fault) → IsWrong bag alg f → f.alg ≡ Some alg
  told f h = grind arith

  pub apart : (f : Fault) → IsMissing bag Payload alg f → IsV10LeftOutByOne bag alg f → ⊥
  apart f h k =
      let clash : PayloadFileMissing ≡ PayloadFileNotListed =
      sym (ap (λ (x : Fault). x.code) h.0) ∙ ap (λ (x : Fault). x.code) k.1.0 in cc
