-- What the manifests of a made bag name, with which digests.
use Rattle.bag_make.proofs.Common.{◌≡◌, ℕ, ◌+◌, ◌-◌, List, Option, Some, None, refl, sym, ap}
use Rattle.bag_make.proofs.Common.{◌∙◌, subst, Contains, IsText, V10, Alg}
use Rattle.bag_make.proofs.Common.{IsEntry, named, Kind, Payload, Tag, Manifest, Bag, file, files_of, digest, rules_in}
use Rattle.bag_make.proofs.Common.{lines_or_none, manifest_of, Names, HasSupported, IsEntryIn, NewElement, NewEntry}
use Rattle.bag_make.proofs.Common.{CanWrite, ManifestIsReadAgain, File, new_payload, entries_of, manifest}
use Rattle.bag_make.proofs.Common.{named_tag_files, made, IsNewText, contains_mapped, mapped_contains}
use Rattle.std.specs.Prelude.{All}
use Rattle.bag_text.specs.Lines.{lines_of_file}
use Rattle.bag_entries.specs.declared.entry.ManifestEntry.{ManifestEntry}
use Rattle.bag_read.proofs.ManifestEntries.{entry_named, named_has_entry}
use Rattle.bag_make.proofs.FetchIsNotThere.{no_line}
use Rattle.bag_facts.proofs.Found.{content_of}
use Rattle.bag_facts.proofs.Mapped.{at_place, place_of}
use Rattle.bag_make.proofs.Held.{tag_held}
use Rattle.bag_make.proofs.MadeRules.{made_rules}

module _ (bag : Bag) (algs : List Alg) (info : List NewElement) where
  -- what a manifest is to name
  abbrev pub listed : Kind → List File
  listed Payload = new_payload (files_of bag)
  listed Tag = named_tag_files (files_of bag) algs info

  -- each manifest can be written
  abbrev pub AreWritable : Type 0
  AreWritable = (kind : Kind) (alg : Alg)
      → All (λ entry. IsText entry.1) (entries_of alg (listed kind)) × CanWrite kind alg (entries_of alg (listed kind))

  pub holds_manifest : (kind : Kind) (alg : Alg) (c : List ℕ) → IsNewText bag algs info (Manifest kind alg) c
      → Contains algs alg × (c ≡ manifest alg (listed kind))
  holds_manifest Payload alg c h = h
  holds_manifest Tag alg c h = h

  -- the entry is of a file that the manifest is to name, and has its digest
  abbrev pub IsListed : Kind → Alg → List ℕ → List ℕ → Type 0
  IsListed kind alg digest_text path =
      Contains algs alg × ((c : List ℕ) × Contains (listed kind) (path, c) × (digest_text ≡ digest alg c))

  module _ (read : ManifestIsReadAgain) (writable : AreWritable) where
    abbrev reads : (kind : Kind) (alg : Alg) (e : ManifestEntry)
        → IsEntry V10 kind alg (lines_of_file (manifest alg (listed kind))) e
        → Contains (entries_of alg (listed kind)) (e.digest, e.path)
    reads kind alg e is =
        let two = writable kind alg in
        let stands = ((read kind alg (entries_of alg (listed kind)) two.0 two.1).0 e).0 is in
        at_place (entries_of alg (listed kind)) stands.0 (e.digest, e.path) stands.2

    member : (kind : Kind) (alg : Alg) (d path : List ℕ)
        → Contains {X = NewEntry} (entries_of alg (listed kind)) (d, path)
        → (c : List ℕ) × Contains (listed kind) (path, c) × (d ≡ digest alg c)
    member kind alg d path h =
        let m = contains_mapped {B = NewEntry} (λ (e : File). (digest alg e.1, e.0)) (listed kind) (d, path) h in (
          m.0.1,
          subst (λ p. Contains (listed kind) (p, m.0.1)) (ap (λ (y : NewEntry). y.1) m.2) m.1,
          sym (ap (λ (y : NewEntry). y.0) m.2),
        )

    entry_by : (kind : Kind) (alg : Alg) (e : ManifestEntry) (o : Option (List ℕ))
        → file (made bag algs info) (manifest_of kind alg) ≡ o
        → IsEntry (rules_in (made bag algs info)) kind alg (lines_or_none o) e → IsListed kind alg e.digest e.path
    entry_by kind alg e None at is = absurd (no_line (e.line - 1) is.0 is.1.1)
    entry_by kind alg e (Some c) at is =
        let two = holds_manifest kind alg c (tag_held bag algs info (Manifest kind alg) c at) in (
          two.0,
          member kind alg e.digest e.path
              (reads kind alg e
              (subst (λ b. IsEntry V10 kind alg (lines_of_file b) e) two.1
              (subst (λ rules. IsEntry rules kind alg (lines_of_file c) e) (made_rules bag algs info) is))),
        )

    -- each entry of a manifest is one that it is to have
    pub entry_listed : (kind : Kind) (alg : Alg) (e : ManifestEntry) → IsEntryIn (made bag algs info) kind alg e
        → IsListed kind alg e.digest e.path
    entry_listed kind alg e is = entry_by kind alg e (file (made bag algs info) (manifest_of kind alg)) refl is

    pub named_listed : (kind : Kind) (alg : Alg) (path : List ℕ) → Names (made bag algs info) kind alg path
        → (c : List ℕ) × Contains (listed kind) (path, c)
    named_listed kind alg path h =
        let n =
        named_has_entry (rules_in (made bag algs info)) kind alg
        (lines_or_none (file (made bag algs info) (manifest_of kind alg))) path h in
        let l = (entry_listed kind alg n.0 n.1).1 in
        (l.0, subst (λ p. Contains (listed kind) (p, l.0)) n.2 l.1)

    -- and it names each
    pub listed_named : (kind : Kind) (alg : Alg) (path c : List ℕ) → HasSupported (made bag algs info) kind alg
        → Contains (listed kind) (path, c) → Names (made bag algs info) kind alg path
    listed_named kind alg path c has there =
        let held = content_of (file (made bag algs info) (manifest_of kind alg)) has in
        let two = holds_manifest kind alg held.0 (tag_held bag algs info (Manifest kind alg) held.0 held.1) in
        let text : file (made bag algs info) (manifest_of kind alg) ≡ Some (manifest alg (listed kind)) =
        held.1 ∙ ap Some two.1 in
        let written = writable kind alg in
        let place =
        place_of (entries_of alg (listed kind)) (digest alg c, path)
        (mapped_contains {B = NewEntry} (λ (e : File). (digest alg e.1, e.0)) (listed kind) (path, c) there) in
        let e : ManifestEntry = record { line = place.0 + 1; digest = digest alg c; path = path } in
        let is : IsEntry V10 kind alg (lines_of_file (manifest alg (listed kind))) e =
        ((read kind alg (entries_of alg (listed kind)) written.0 written.1).0 e).1 (place.0, refl, place.1) in
        subst (λ o. Contains (named (rules_in (made bag algs info)) kind alg (lines_or_none o)) path) (sym text)
        (subst (λ rules. Contains (named rules kind alg (lines_of_file (manifest alg (listed kind)))) path)
        (sym (made_rules bag algs info))
        (entry_named V10 kind alg (lines_of_file (manifest alg (listed kind))) e is))
