use Rattle.bag_read.proofs.Common.{List, Some, [], ap, arith, bytes_eq, false, inl, inr, length-append, not, refl, sym}
use Rattle.bag_read.proofs.Common.{true, ℕ, ◌&&◌, ◌++◌, ◌∙◌, ◌∷◌, ◌≡◌, get_or-append_seam, cond_some, slice_get-get_or}
use Rattle.bag_read.proofs.Common.{after_first, before_first, list_any, ◌↔◌, byte, ends_with_blank, is_blank, Rules}
use Rattle.bag_read.proofs.Common.{is_colon, is_label, split}
use Rattle.bag_text.specs.Rules.{label_of, may_follow_colon}
use Rattle.bag_text.specs.Trim.{EndsWithNoBlank}
use Rattle.bag_text.specs.declared.rules.Rules.TheVariants.{V10, V097}
use Rattle.bag_read.specs.InfoSplit.{IsLabelIn, MayFollow, SplitsAs}
use Rattle.bag_read.proofs.FirstMark.{cut_at, before_is, behind_is, has_mark}
use Rattle.bag_read.proofs.Fronts.{front_passes}
use Rattle.bag_read.proofs.LineParts.{not_true, not_empty, empty_test}
use Rattle.bag_read.proofs.PickedOut.{both_true}
use Rattle.bag_read.proofs.laws.lines_split_as_their_parts.Goals as goal

-- The first line of an element and its parts.

-- ---- the last character

ends_as : (front : List ℕ) (c : ℕ) → ends_with_blank (front ++ c ∷ []) ≡ is_blank c
ends_as front c = grind (arith, get_or-append_seam front c [] 0, length-append, slice_get-get_or)

-- a text is empty or has a last character
has_last : (c : ℕ) (t : List ℕ) → (front : List ℕ) × (last : ℕ) × (c ∷ t ≡ front ++ last ∷ [])
has_last c [] = ([], c, refl)
has_last c (d ∷ t) = let more = has_last d t in (c ∷ more.0, more.1, ap (λ s. c ∷ s) more.2)

no_blank_last : (t : List ℕ) → ends_with_blank t ≡ false → EndsWithNoBlank t
no_blank_last t e front c same = sym (ends_as front c) ∙ ap ends_with_blank (sym same) ∙ e

not_ending : (t : List ℕ) → EndsWithNoBlank t → ends_with_blank t ≡ false
not_ending [] h = refl
not_ending (c ∷ t) h =
    let last = has_last c t in ap ends_with_blank last.2 ∙ ends_as last.0 last.1 ∙ h last.0 last.1 last.2

-- ---- the label and what follows

label_is : (rules : Rules) (before label : List ℕ) → IsLabelIn rules before label ↔ (label_of rules before ≡ label)
label_is rules before label = grind arith

may_follow : (rules : Rules) (t : List ℕ) → MayFollow rules t ↔ (may_follow_colon rules t ≡ true)
may_follow V10 [] = (λ h. refl, λ e. inl refl)
may_follow V10 (c ∷ t) = (λ h. grind arith, λ e. inr (c, t, refl, e))
may_follow V097 t = (λ h. refl, λ e. tt)

-- ---- the line

module _ (rules : Rules) (line label part : List ℕ) where
  abbrev before : List ℕ
  before = before_first is_colon line

  abbrev named : List ℕ
  named = label_of rules before

  abbrev behind : List ℕ
  behind = after_first is_colon line

  line_parts : split rules line ≡ Some (label, part) → SplitsAs rules line label part
  line_parts e =
      let (tests, pair) =
      cond_some (list_any is_colon line && is_label named && may_follow_colon rules behind) (named, behind)
      (label, part) e in
      let same : named ≡ label = ap (λ (x : List ℕ × List ℕ). x.0) pair in
      let rest : behind ≡ part = ap (λ (x : List ℕ × List ℕ). x.1) pair in
      let outer = both_true (list_any is_colon line && is_label named) (may_follow_colon rules behind) tests in
      let inner = both_true (list_any is_colon line) (is_label named) outer.0 in
      let good = both_true (not (bytes_eq named [])) (not (ends_with_blank named)) inner.1 in
      record {
        before = before;
        line_is = rw rest at (cut_at (byte ":") line inner.0);
        no_colon = front_passes (λ c. not (is_colon c)) line;
        its_label = (label_is rules before label).1 same;
        some_label = rw same at (not_empty named (not_true _ good.0));
        no_blank_last = no_blank_last label (rw same at (not_true _ good.1));
        follows = (may_follow rules part).1 (rw rest at outer.1);
      }

  parts_line : SplitsAs rules line label part → split rules line ≡ Some (label, part)
  parts_line r =
      let front = before_is (byte ":") r.before part line r.no_colon r.line_is in
      let rest = behind_is (byte ":") r.before part line r.no_colon r.line_is in
      rw (
        has_mark (byte ":") r.before part line r.no_colon r.line_is,
        front,
        (label_is rules r.before label).0 r.its_label,
        rest,
        empty_test label r.some_label,
        not_ending label r.no_blank_last,
        (may_follow rules part).0 r.follows,
      ) refl

pub returns : goal.returns
returns c = λ rules line label part. (line_parts rules line label part, parts_line rules line label part)
