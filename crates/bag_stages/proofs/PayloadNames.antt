-- The names of the payload, and lent names that are sorted.
use Rattle.bag_stages.proofs.Common.{◌≡◌, ◌↔◌, ◌<◌, ◌≤◌, inl, inr, ◌⊎◌, ◌+◌, ◌++◌, ℕ, List, [], length, take, take_all}
use Rattle.bag_stages.proofs.Common.{get_or, arith, None, Some, Bool, sym, ◌∙◌, Contains, Bor, on_texts, on_texts_equal}
use Rattle.bag_stages.proofs.Common.{pointwise, same_text, texts_ties, dedup, filter, IsPermutation, IsSorted, on}
use Rattle.bag_stages.proofs.Common.{Any-dedup, Contains-from_dedup, IsStrictlySortedBy-dedup, IsPermutation-sym}
use Rattle.bag_stages.proofs.Common.{Contains-permutation, get_or-map, get_or_default, length-map, IsListOf, text_cmp}
use Rattle.bag_stages.proofs.Common.{contains_mapped, mapped_contains, kept, passed, take_one_more, algs}
use Rattle.bag_stages.proofs.Common.{is_payload_path, Alg, each_is_listed, contains_nothing, Payload, Bag, file}
use Rattle.bag_stages.proofs.Common.{FileEntry, rules_in, entry_paths, IsManifestNamed, IsReadOf, AreFilesOfBag}
use Rattle.bag_stages.proofs.Common.{paths_of, Manifest, paths_ascend, file_listed, listed_file, manifest_of, Names}
use Rattle.bag_stages.proofs.Common.{IsPayloadName, texts_of, IsNameOf}
use Rattle.std.specs.Bool.{nat_eq}
use Rattle.bag_stages.proofs.ByItem.{of_last_or_before, of_one_more}
use Rattle.bag_stages.proofs.ReadManifest.{entry_names, names_entry, names_nothing}
use Rattle.bag_stages.proofs.Sorted.{either_listed}

abbrev pub Lent : Type 0
Lent = Bor (List ℕ)

abbrev pub text : Lent → List ℕ
text name = name.now

abbrev same : Lent → Lent → Bool
same = on text (pointwise nat_eq)

-- a text of lent names
pub text_within : (names : List Lent) (i : ℕ) → i < length names → i < length (texts_of names)
text_within names i lt = rw (length-map names text) lt

pub text_at : (names : List Lent) (i : ℕ) (d : Lent) → i < length names
    → text (get_or names i d) ≡ get_or (texts_of names) i (text (get_or names i d))
text_at names i d lt =
    sym (get_or-map text names i d)
    ∙ get_or_default (texts_of names) i (text d) (text (get_or names i d)) (text_within names i lt)

pub all_texts : (names : List Lent) (i : ℕ) → length names ≤ i → take i (texts_of names) ≡ texts_of names
all_texts names i le = take_all i (texts_of names) (rw (length-map names text) le)

module _ (names sorted : List Lent) (perm : IsPermutation names sorted) where
  to_name : (path : List ℕ) → Contains (texts_of (dedup same sorted)) path → Contains (texts_of names) path
  to_name path c =
      let some = contains_mapped text (dedup same sorted) path c in
      rw (sym some.2) (mapped_contains text names some.0
      (Contains-permutation sorted names some.0 (IsPermutation-sym names sorted perm)
      (Contains-from_dedup same sorted some.0 some.1)))

  from_name : (path : List ℕ) → Contains (texts_of names) path → Contains (texts_of (dedup same sorted)) path
  from_name path c =
      let some = contains_mapped text names path c in
      let kept = Any-dedup (on_texts_equal text) sorted some.0 (Contains-permutation names sorted some.0 perm some.1) in
      rw (sym some.2, same_text (text some.0) (text kept.1) (sym kept.4))
      (mapped_contains text (dedup same sorted) kept.1 (kept.0, kept.2, kept.3))

  -- names that are sorted, each kept once
  pub sorted_listed : IsSorted (on text text_cmp) sorted
      → IsListOf text_cmp (Contains (texts_of names)) (texts_of (dedup same sorted))
  sorted_listed in_order = record {
    ascending =
        paths_ascend text (dedup same sorted)
        (IsStrictlySortedBy-dedup (on_texts text) (λ x y. texts_ties (text x) (text y)) sorted in_order);
    members = λ path. (to_name path, from_name path);
  }

-- three sets, two of them put together before the third
regrouped : {A B C D E F : Type 0} → E ↔ (D ⊎ C) → D ↔ (A ⊎ B) → (B ⊎ C) ↔ F → E ↔ (A ⊎ F)
regrouped p q r = grind (arith, p, q, r)

-- the manifest of an algorithm, as it was read
module _ (bag : Bag) (alg : Alg) where
  -- the names that were there, and those of a manifest
  pub read_added : (m : Manifest) (old new : List (List ℕ))
      → IsReadOf (IsManifestNamed (rules_in bag) Payload alg) (file bag (manifest_of Payload alg)) (Some m)
      → new ≡ old ++ entry_paths m.entries
      → (path : List ℕ) → Contains new path ↔ (Contains old path ⊎ Names bag Payload alg path)
  read_added m old new read made path =
      rw made
      (either_listed (Contains old) (Names bag Payload alg) old (entry_paths m.entries) (λ p. (λ c. c, λ c. c))
      (λ p. (entry_names bag Payload alg m read p, names_entry bag Payload alg m read p)) path)

  pub nothing_added : (old : List (List ℕ))
      → IsReadOf (IsManifestNamed (rules_in bag) Payload alg) (file bag (manifest_of Payload alg)) None
      → (path : List ℕ) → Contains old path ↔ (Contains old path ⊎ Names bag Payload alg path)
  nothing_added old read path = grind (arith, names_nothing bag Payload alg read path)

module _ (bag : Bag) where
  -- the payload files of the listing, and no manifest yet
  pub files_first : (files : List FileEntry) (names : List (List ℕ)) → AreFilesOfBag bag files
      → names ≡ filter is_payload_path (paths_of files)
      → (path : List ℕ) → Contains names path ↔ IsNameOf bag [] path
  files_first files names listed made path =
      rw made (grind (
        arith,
        kept is_payload_path (paths_of files) path,
        passed is_payload_path (paths_of files) path,
        listed_file bag files path listed,
        file_listed bag files path listed,
        contains_nothing,
      ))

  -- the names of one more manifest
  pub one_manifest_more : (i : ℕ) (any : Alg) (old new : List (List ℕ)) → i < length algs
      → ((path : List ℕ) → Contains old path ↔ IsNameOf bag (take i algs) path)
      → ((path : List ℕ) → Contains new path ↔ (Contains old path ⊎ Names bag Payload (get_or algs i any) path))
      → (path : List ℕ) → Contains new path ↔ IsNameOf bag (take (i + 1) algs) path
  one_manifest_more i any old new lt before made path =
      let alg : Alg = get_or algs i any in
      let named : Alg → List ℕ → Type 0 = Names bag Payload in
      rw (take_one_more algs i alg lt (get_or_default algs i any alg lt))
      (regrouped (made path) (before path)
      (of_one_more named (take i algs) alg path, of_last_or_before named (take i algs) alg path))

  -- which are all names
  pub all_names : (i : ℕ) (names : List (List ℕ)) → length algs ≤ i
      → ((path : List ℕ) → Contains names path ↔ IsNameOf bag (take i algs) path)
      → (path : List ℕ) → Contains names path ↔ IsPayloadName bag path
  all_names i names le are path =
      let all = rw (take_all i algs le) at (are path) in (
        (λ c. elim (all.0 c) [ inl of_file ↦ inl of_file | inr of_alg ↦ inr (of_alg.0, of_alg.2) ]),
        (λ h. all.1 (elim h
            [ inl of_file ↦ inl of_file | inr of_alg ↦ inr (of_alg.0, each_is_listed of_alg.0, of_alg.1) ])),
      )
