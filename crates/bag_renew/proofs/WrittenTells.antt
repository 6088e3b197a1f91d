-- A manifest that is written names just what it is to name, with the digests.
use Rattle.bag_renew.proofs.Common.{◌≡◌, ◌&&◌, ◌+◌, ◌∷◌, ◌∙◌, ℕ, Bool, true, false, not, List, [], Some, is_some}
use Rattle.bag_renew.proofs.Common.{map, refl, ap, sym, subst, Contains, All, AllByRecursion, and_from}
use Rattle.bag_renew.proofs.Common.{and_parts, or_from, not_from_true, All-from_recursion, list_any, eq_by_cmp}
use Rattle.bag_renew.proofs.Common.{bytes_eq, entries_sorted, is_sorted, contains_mapped, mapped_contains, text_cmp}
use Rattle.bag_renew.proofs.Common.{is_path, is_payload_path, is_manifest_name, Kind, Payload, Tag, Alg, Bag, HasFile}
use Rattle.bag_renew.proofs.Common.{file, files_of, File, manifest_by}
use Rattle.std.specs.List.{IsDistinct}
use Rattle.std.specs.FinMap.Entries.{is_sorted-where_key}
use Rattle.std.specs.Cmp.Lexicographic.{texts_ties}
use Rattle.std.proofs.lemmas.Map.Keys.{IsDistinct-from_sorted}
use Rattle.std.proofs.lemmas.Simd.{map-map}
use Rattle.std.proofs.lemmas.Str.{is_utf8-from_IsUtf8}
use Rattle.bag_text.proofs.ListOf.{each_from_members}
use Rattle.bag_text.specs.Lines.{lines_of_file}
use Rattle.bag_text.specs.Text.{IsText}
use Rattle.bag_text.specs.declared.rules.Rules.{Rules}
use Rattle.bag_read.specs.Manifest.{IsEntry}
use Rattle.bag_entries.specs.declared.entry.ManifestEntry.{ManifestEntry}
use Rattle.bag_read.proofs.ManifestEntries.{entry_named, named_has_entry}
use Rattle.bag_tags.specs.Entry.{NewEntry}
use Rattle.bag_tags.specs.Writable.{CanWriteBy, is_bad_digest, is_bad_entry_by, is_bad_path_by, is_unnameable, may_name}
use Rattle.bag_tags.specs.Writable.{paths}
use Rattle.bag_tags.proofs.ManifestReadAgain.{manifest_again_by}
use Rattle.bag_facts.proofs.Mapped.{at_place, kept, passed, place_of}
use Rattle.bag_tree.proofs.PathEntries.{t_true}
use Rattle.bag_tree.specs.Digest.{digest}
use Rattle.bag_tags.specs.Summed.{entries_of}
use Rattle.bag_changes.specs.Telling.{AreNameable, ArePaths, GivesDigests, IsManifestOf, IsToBeNamed, NamesAll, WrittenManifestsTell}
use Rattle.bag_changes.specs.Telling.{is_to_name, paths_named, to_name}
use Rattle.bag_tags.proofs.Digests.{good_digest}
use Rattle.bag_facts.proofs.Found.{ascends, content_of, held_at, listed}

distinct_sorted : (es : List File) → is_sorted text_cmp es ≡ true
    → IsDistinct (eq_by_cmp text_cmp) (map (λ (e : File). e.0) es)
distinct_sorted es up = IsDistinct-from_sorted text_cmp (map (λ (e : File). e.0) es) (ascends es up)

-- a path that a manifest of this kind can name by these rules
abbrev CanName : Rules → Kind → List ℕ → Type 0
CanName rules kind path = IsText path × (is_bad_path_by rules kind path ≡ false)

good_entries : (rules : Rules) (kind : Kind) (alg : Alg) (es : List File)
    → AllByRecursion (λ (e : File). CanName rules kind e.0) es
    → AllByRecursion (λ (entry : NewEntry). IsText entry.1) (entries_of alg es)
    × (list_any (is_bad_entry_by rules kind alg) (entries_of alg es) ≡ false)
good_entries rules kind alg [] all = (tt, refl)
good_entries rules kind alg (e ∷ es) all =
    let more = good_entries rules kind alg es all.1 in (
      (all.0.0, more.0),
      or_from (is_bad_entry_by rules kind alg (digest alg e.1, e.0)) _
          (or_from (is_bad_digest alg (digest alg e.1)) (is_bad_path_by rules kind e.0) (good_digest alg e.1) all.0.1)
          more.1,
    )

module _ (rules : Rules) (bag : Bag) (kind : Kind) (alg : Alg) where
  -- what is to be named is there
  there : (q c : List ℕ) → Contains (to_name bag kind) (q, c) → (is_to_name kind q ≡ true) × (file bag q ≡ Some c)
  there q c h =
      let k = kept (λ (e : File). is_to_name kind e.0) (files_of bag) (q, c) h in (k.0, held_at bag.files q c k.1)

  -- and what is there and is to be named is so
  is_there : (q c : List ℕ) → is_to_name kind q ≡ true → file bag q ≡ Some c → Contains (to_name bag kind) (q, c)
  is_there q c is at = passed (λ (e : File). is_to_name kind e.0) (files_of bag) (q, c) is (listed bag.files q c at)

  abbrev entries : List NewEntry
  entries = entries_of alg (to_name bag kind)

  -- the entry is of a file that the manifest is to name, and has its digest
  abbrev IsListed : List ℕ → List ℕ → Type 0
  IsListed digest_text path = (c : List ℕ) × Contains (to_name bag kind) (path, c) × (digest_text ≡ digest alg c)

  member : (d path : List ℕ) → Contains {X = NewEntry} entries (d, path) → IsListed d path
  member d path h =
      let m = contains_mapped {B = NewEntry} (λ (e : File). (digest alg e.1, e.0)) (to_name bag kind) (d, path) h in (
        m.0.1,
        subst (λ p. Contains (to_name bag kind) (p, m.0.1)) (ap (λ (y : NewEntry). y.1) m.2) m.1,
        sym (ap (λ (y : NewEntry). y.0) m.2),
      )

  each_once : IsDistinct bytes_eq (paths entries)
  each_once =
      let up : is_sorted text_cmp (to_name bag kind) ≡ true =
      t_true _ (is_sorted-where_key text_cmp (is_to_name kind) (files_of bag) (entries_sorted bag.files)) in
      let named : IsDistinct (eq_by_cmp text_cmp) (paths entries) =
      rw map-map (distinct_sorted (to_name bag kind) up) in
      subst (λ (eq : List ℕ → List ℕ → Bool). IsDistinct eq (paths entries)) (λ i p q. sym (texts_ties p q) i) named

  module _ (are : ArePaths bag) (nameable : AreNameable rules bag) where
    may : (kind : Kind) (q : List ℕ) → HasFile bag q → is_to_name kind q ≡ true → may_name kind q ≡ true
    may Payload q has is = is
    may Tag q has is =
        let two = and_parts (not (is_payload_path q)) (not (is_manifest_name Tag q)) is in
        and_from (is_path q && not (is_payload_path q)) (not (is_manifest_name Tag q))
        (and_from (is_path q) (not (is_payload_path q)) (are q has).0 two.0) two.1

    can_name : AllByRecursion (λ (e : File). CanName rules kind e.0) (to_name bag kind)
    can_name = each_from_members (λ (e : File). CanName rules kind e.0) (to_name bag kind) (λ e h.
        let m = there e.0 e.1 h in
        let has : HasFile bag e.0 = ap is_some m.1 in (
          is_utf8-from_IsUtf8 e.0 (are e.0 has).1,
          or_from (not (may_name kind e.0)) (is_unnameable rules e.0) (not_from_true _ (may kind e.0 has m.0))
              (nameable e.0 has),
        ))

    writable : All (λ entry. IsText entry.1) entries × CanWriteBy rules kind alg entries
    writable =
        let good = good_entries rules kind alg (to_name bag kind) can_name in
        (All-from_recursion (λ (entry : NewEntry). IsText entry.1) entries good.0, (good.1, each_once))

    abbrev text_of : List ℕ
    text_of = manifest_by rules alg (to_name bag kind)

    abbrev lines : List (List ℕ)
    lines = lines_of_file text_of

    entry_listed : (e : ManifestEntry) → IsEntry rules kind alg lines e → IsListed e.digest e.path
    entry_listed e is =
        let stands = ((manifest_again_by rules kind alg entries writable.0 writable.1).0 e).0 is in
        member e.digest e.path (at_place entries stands.0 (e.digest, e.path) stands.2)

    named_there : (path : List ℕ) → Contains (paths_named rules kind alg text_of) path
        → IsToBeNamed bag kind path
    named_there path h =
        let n = named_has_entry rules kind alg lines path h in
        let l = entry_listed n.0 n.1 in
        let held = there path l.0 (subst (λ p. Contains (to_name bag kind) (p, l.0)) n.2 l.1) in
        (ap is_some held.1, held.0)

    there_named : (path : List ℕ) → HasFile bag path → is_to_name kind path ≡ true
        → Contains (paths_named rules kind alg text_of) path
    there_named path has is =
        let c = content_of (file bag path) has in
        let place =
        place_of entries (digest alg c.0, path)
        (mapped_contains {B = NewEntry} (λ (e : File). (digest alg e.1, e.0)) (to_name bag kind) (path, c.0)
        (is_there path c.0 is c.1)) in
        let e : ManifestEntry = record { line = place.0 + 1; digest = digest alg c.0; path = path } in
        let is : IsEntry rules kind alg lines e =
        ((manifest_again_by rules kind alg entries writable.0 writable.1).0 e).1 (place.0, refl, place.1) in
        entry_named rules kind alg lines e is

    names_all : NamesAll rules bag kind alg text_of
    names_all = record {
      no_fault = (manifest_again_by rules kind alg entries writable.0 writable.1).1;
      paths = λ path. (named_there path, λ h. there_named path h.0 h.1);
    }

    gives_digests : GivesDigests rules bag kind alg text_of
    gives_digests e content is held =
        let l = entry_listed e is in
        let both : Some l.0 ≡ Some content = sym (there e.path l.0 l.1).1 ∙ held in
        let same : l.0 ≡ content = cc in
        l.2 ∙ ap (digest alg) same

    pub tells : (text : List ℕ) → IsManifestOf rules bag kind alg text
        → NamesAll rules bag kind alg text × GivesDigests rules bag kind alg text
    tells text is =
        subst (λ t. NamesAll rules bag kind alg t × GivesDigests rules bag kind alg t) (sym is) (names_all, gives_digests)

pub written_manifests_tell : WrittenManifestsTell
written_manifests_tell rules bag kind alg text are nameable is = tells rules bag kind alg are nameable text is
