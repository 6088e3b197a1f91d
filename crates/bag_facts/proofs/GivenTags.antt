-- What was given of tag files is the wanted tag files of a bag that has them.
use Rattle.bag_facts.proofs.Common.{◌≡◌, ◌∷◌, ℕ, List, [], map, Some, sym, ap, ◌∙◌, subst, is_some, Contains, Less}
use Rattle.bag_facts.proofs.Common.{AllByRecursion, IsStrictlySortedBy, on, text_cmp, Bag, file, FileEntry}
use Rattle.bag_facts.proofs.Common.{AreFilesOfBag, AreWanted, IsWanted, read_path, given_of, Options, TagBytes}
use Rattle.bag_facts.proofs.ListedFiles.{file_listed}
use Rattle.bag_facts.proofs.Mapped.{contains_mapped, mapped_contains}
use Rattle.bag_facts.specs.Given.{AreTagFiles}

less_given : (path : List ℕ) (read : List TagBytes) → AllByRecursion (λ p. text_cmp path p ≡ Less) (map read_path read)
    → AllByRecursion (λ (e : List ℕ × List ℕ). text_cmp path e.0 ≡ Less) (map given_of read)
less_given path [] less = tt
less_given path (one ∷ read) less = (less.0, less_given path read less.1)

given_ascends : (read : List TagBytes) → IsStrictlySortedBy text_cmp (map read_path read)
    → IsStrictlySortedBy (on (λ (e : List ℕ × List ℕ). e.0) text_cmp) (map given_of read)
unfolding IsStrictlySortedBy
given_ascends [] s = tt
given_ascends (one ∷ read) s = (less_given (read_path one) read s.0, given_ascends read s.1)

module _ (bag : Bag) (options : Options) (files : List FileEntry) (read : List TagBytes)
    (listed : AreFilesOfBag bag files) (wanted : AreWanted options files (map read_path read))
    (held : (one : TagBytes) → Contains read one → file bag (read_path one) ≡ Some one.bytes.items) where
  abbrev IsTagFile : List ℕ × List ℕ → Type 0
  IsTagFile e = IsWanted options e.0 × (file bag e.0 ≡ Some e.1)

  is_tag_file : (e : List ℕ × List ℕ) → Contains (map given_of read) e → IsTagFile e
  is_tag_file e c =
      let from = contains_mapped given_of read e c in
      let path = (wanted.members (read_path from.0)).0 (mapped_contains read_path read from.0 from.1) in
      subst IsTagFile from.2 (path.0, held from.0 from.1)

  was_given : (e : List ℕ × List ℕ) → IsTagFile e → Contains (map given_of read) e
  was_given e is =
      let there = file_listed bag files e.0 listed (ap is_some is.1) in
      let from = contains_mapped read_path read e.0 ((wanted.members e.0).1 (is.0, there)) in
      let same : Some from.0.bytes.items ≡ Some e.1 = sym (held from.0 from.1) ∙ ap (file bag) from.2 ∙ is.1 in
      let bytes : from.0.bytes.items ≡ e.1 = cc in
      subst (Contains (map given_of read)) (λ i. (from.2 i, bytes i)) (mapped_contains given_of read from.0 from.1)

  pub are_tag_files : AreTagFiles options bag (map given_of read)
  are_tag_files = record {
    ascending = given_ascends read wanted.ascending;
    members = λ e. (is_tag_file e, was_given e);
  }
