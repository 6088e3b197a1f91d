-- The entries that are written are read again, and no others, with no fault.
use Rattle.bag_tags.proofs.Common.{List, Some, [], ap, arith, bytes_eq, false, inl, inr, map, option_map, refl, subst}
use Rattle.bag_tags.proofs.Common.{suc, sym, take, true, zero, ℕ, ◌∙◌, ◌∷◌, ◌≡◌, true≢false, take-map}
use Rattle.bag_tags.proofs.Common.{All-from_recursion, All-take, recursion_from_All, IsDistinct-head, IsDistinct-tail}
use Rattle.bag_tags.proofs.Common.{slice_get-map, bytes_eq-Decides, AllByRecursion, list_any, slice_get, Contains}
use Rattle.bag_tags.proofs.Common.{or_false, IsEntry, ManifestFault, ReadsManifest, manifest_line, named, named_before}
use Rattle.bag_tags.proofs.Common.{Kind, LineFault, IsLine, lines_of_file, IsText, Alg, Code, NamedAgain, NotUtf8, V10}
use Rattle.bag_tags.proofs.Common.{NamesEachOnce, NewEntry, paths}
use Rattle.bag_tags.proofs.Common.{ManifestIsReadAgain, StandsOn}
use Rattle.bag_text.proofs.ListOf.{contains_cases, contains_nothing}
use Rattle.bag_read.proofs.ManifestCodes.{unread_line}
use Rattle.bag_read.proofs.Reason.{never_ok, ok_same}
use Rattle.bag_read.specs.Manifest.{HasUnreadLine}
use Rattle.bag_entries.specs.declared.entry.ManifestEntry.{ManifestEntry}
use Rattle.bag_text.specs.declared.rules.Rules.{Rules}
use Rattle.bag_tags.specs.Entry.{entry_line_by, manifest_text_by}
use Rattle.bag_tags.specs.ReadAgain.{ManifestIsReadAgainBy}
use Rattle.bag_tags.specs.Writable.{is_bad_entry_by}
use Rattle.bag_tags.proofs.ManifestLines.{reads, written}
use Rattle.bag_tags.proofs.WrittenLines.{IsWritten, at_place, file_lines, is_text, line_of_item, item_on_line}

taken : {A : Type 0} (P : A → Type 0) (k : ℕ) (xs : List A) → AllByRecursion P xs → AllByRecursion P (take k xs)
taken P k xs all = recursion_from_All P (take k xs) (All-take P k xs (All-from_recursion P xs all))

-- a path that stands on one place stands on none before it
apart : (entries : List NewEntry) (k : ℕ) (x : NewEntry) → NamesEachOnce entries → slice_get entries k ≡ Some x
    → Contains (paths (take k entries)) x.1 → ⊥
apart [] k x once e c = cc
apart (y ∷ ys) zero x once e c = contains_nothing x.1 c
apart (y ∷ ys) (suc k) x once e c =
    elim (contains_cases y.1 (paths (take k ys)) x.1 c) [
      | inl same ↦ (
          let there : slice_get (paths ys) k ≡ Some x.1 =
          slice_get-map (λ (z : NewEntry). z.1) ys k ∙ ap (option_map (λ (z : NewEntry). z.1)) e in
          let other =
          at_place (λ p. bytes_eq y.1 p ≡ false) (paths ys) k x.1 (IsDistinct-head bytes_eq y.1 (paths ys) once)
          there in
          true≢false (sym ((bytes_eq-Decides y.1 x.1).1 same) ∙ other))
      | inr before ↦ apart ys k x (IsDistinct-tail bytes_eq y.1 (paths ys) once) e before
    ]

module _ (rules : Rules) (kind : Kind) (alg : Alg) where
  abbrev IsGood : NewEntry → Type 0
  IsGood x = (is_bad_entry_by rules kind alg x ≡ false) × IsText x.1

  good_each : (entries : List NewEntry) → AllByRecursion (λ x. IsText x.1) entries
      → list_any (is_bad_entry_by rules kind alg) entries ≡ false → AllByRecursion IsGood entries
  good_each [] texts e = tt
  good_each (x ∷ xs) texts e =
      let two =
      or_false (is_bad_entry_by rules kind alg x) (list_any (is_bad_entry_by rules kind alg) xs) e
      in ((two.0, texts.0), good_each xs texts.1 two.1)

  written_each : (entries : List NewEntry) → AllByRecursion IsGood entries
      → AllByRecursion (IsWritten (entry_line_by rules)) entries
  written_each [] all = tt
  written_each (x ∷ xs) all = (written rules kind alg x all.0.0 all.0.1, written_each xs all.1)

  named_each : (entries : List NewEntry) → AllByRecursion IsGood entries
      → named rules kind alg (map (entry_line_by rules) entries) ≡ paths entries
  named_each [] all = refl
  named_each (x ∷ xs) all =
      let is = reads rules kind alg x all.0.0 in rw (is.0, is.1) (ap (λ more. x.1 ∷ more) (named_each xs all.1))

  module _ (entries : List NewEntry) (all : AllByRecursion IsGood entries) (once : NamesEachOnce entries) where
    abbrev here : List (List ℕ)
    here = map (entry_line_by rules) entries

    reads_at : (n : ℕ) (x : NewEntry) → StandsOn entries n x → ReadsManifest rules kind alg (entry_line_by rules x) x.0 x.1
    reads_at n x (k, at, is) = reads rules kind alg x (at_place IsGood entries k x all is).0

    first_named : (n : ℕ) (x : NewEntry) → StandsOn entries n x → ¬ (Contains (named_before rules kind alg here n) x.1)
    first_named n x (k, at, is) c = grind (arith, take-map (entry_line_by rules), named_each, taken, apart)

    same_entry : (n : ℕ) (line digest path : List ℕ) → IsLine here n line → ReadsManifest rules kind alg line digest path
        → StandsOn entries n (digest, path)
    same_entry n line digest path is read =
        let (x, stands, same) = line_of_item (entry_line_by rules) entries n line is in
        let pair : ◌≡◌ {A = NewEntry} x (digest, path) =
        ok_same x (digest, path) (sym (reads_at n x stands).1 ∙ sym (ap (manifest_line rules kind alg) same) ∙ read.1)
        in
        subst (StandsOn entries n) pair stands

    to : (e : ManifestEntry) → IsEntry rules kind alg here e → StandsOn entries e.line (e.digest, e.path)
    to e (line, is, read, first) = same_entry e.line line e.digest e.path is read

    from : (e : ManifestEntry) → StandsOn entries e.line (e.digest, e.path) → IsEntry rules kind alg here e
    from e stands =
        let x : NewEntry = (e.digest, e.path) in (
          entry_line_by rules x,
          item_on_line (entry_line_by rules) entries e.line x stands,
          reads_at e.line x stands,
          first_named e.line x stands,
        )

    abbrev bytes : List ℕ
    bytes = manifest_text_by rules entries

    lines_are : lines_of_file bytes ≡ here
    lines_are = file_lines (entry_line_by rules) entries (written_each entries all)

    no_unread : (code : Code) (f : LineFault) → HasUnreadLine code rules kind alg bytes f → ⊥
    no_unread code f w =
        let (x, stands, same) =
        line_of_item (entry_line_by rules) entries f.line w.0 (subst (λ ls. IsLine ls f.line w.0) lines_are w.1) in
        never_ok x (code, f.detail)
        (sym (reads_at f.line x stands).1 ∙ sym (ap (manifest_line rules kind alg) same) ∙ w.2.1)

    no_fault : (code : Code) (f : LineFault) → ManifestFault code rules kind alg bytes f → ⊥
    no_fault NotUtf8 f w =
        let clash : true ≡ false = sym (is_text (entry_line_by rules) entries (written_each entries all)) ∙ w.2 in cc
    no_fault NamedAgain f (line, digest, is, read, again) =
        let stands = same_entry f.line line digest f.detail (subst (λ ls. IsLine ls f.line line) lines_are is) read in
        first_named f.line (digest, f.detail) stands
        (subst (λ ls. Contains (named_before rules kind alg ls f.line) f.detail) lines_are again)
    no_fault code f w = no_unread code f (unread_line rules kind alg bytes code f (λ same. cc) (λ same. cc) w)

pub manifest_again_by : (rules : Rules) → ManifestIsReadAgainBy rules
manifest_again_by rules kind alg entries texts can =
    let all = good_each rules kind alg entries (recursion_from_All _ entries texts) can.0 in
    let same = lines_are rules kind alg entries all can.1 in (
      λ e. (
        λ is. to rules kind alg entries all can.1 e (subst (λ ls. IsEntry rules kind alg ls e) same is),
        λ stands.
            subst (λ ls. IsEntry rules kind alg ls e) (sym same) (from rules kind alg entries all can.1 e stands),
      ),
      λ f w. no_fault rules kind alg entries all can.1 f.code f w,
    )

pub manifest_again : ManifestIsReadAgain
manifest_again = manifest_again_by V10
