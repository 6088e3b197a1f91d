-- The line of an element that can be written, as it is read.
use Rattle.bag_tags.proofs.Common.{Bool, List, Some, [], ap, append_assoc, arith, codes, drop, false, length, map, not}
use Rattle.bag_tags.proofs.Common.{refl, true, ℕ, ◌++◌, ◌+◌, ◌∙◌, ◌∷◌, ◌≡◌, ◌≢◌, drop-append-add, nat_tests}
use Rattle.bag_tags.proofs.Common.{list_any-append, IsUtf8-append, IsUtf8-from_is_utf8, AllByRecursion, after_first}
use Rattle.bag_tags.proofs.Common.{before_first, list_all, list_any, position_or_len, empty_test, not_empty, or_false}
use Rattle.bag_tags.proofs.Common.{begins_element, is_colon, is_label, leading_continuations, split, value_of_parts}
use Rattle.bag_tags.proofs.Common.{is_line_end, IsText, has_mark, trim, V10, NewElement, has_outer_blank, info_line}
use Rattle.bag_tags.proofs.Common.{is_bad_element}
use Rattle.bag_text.specs.declared.rules.Rules.{Rules}
use Rattle.bag_text.specs.declared.rules.Rules.TheVariants.{V097}
use Rattle.bag_read.proofs.Fronts.{front_len, take_front}
use Rattle.bag_tags.proofs.TrimmedTexts.{trimmed, trim_behind, first_unblank, ends_unblank}
use Rattle.bag_tags.proofs.WrittenLines.{IsWritten, behind, few_utf8}

-- what is known of an element that can be written
abbrev pub IsGood : NewElement → Type 0
IsGood e = (is_bad_element e ≡ false) × IsText e.0 × IsText e.1

record GoodLabel (t : List ℕ) : Type 0 where
  some : t ≢ []
  no_colon : list_any is_colon t ≡ false
  no_end : list_any is_line_end t ≡ false
  is_trimmed : trim t ≡ t
  no_mark : has_mark t ≡ false

none_passes : (p : ℕ → Bool) (t : List ℕ) → list_any p t ≡ false → list_all (λ c. not (p c)) t ≡ true
none_passes p [] e = refl
none_passes p (c ∷ t) e = let two = or_false (p c) (list_any p t) e in rw (two.0) (none_passes p t two.1)

module _ (label value : List ℕ) where
  abbrev element : NewElement
  element = (label, value)

  abbrev behind_label : List ℕ
  behind_label = 32 ∷ value

  line_is : info_line element ≡ label ++ 58 ∷ behind_label
  line_is = append_assoc label (codes ": ") value

  begins_some : (t : List ℕ) → t ≢ [] → trim t ≡ t → begins_element (t ++ 58 ∷ behind_label) ≡ true
  begins_some [] some h = absurd (some refl)
  begins_some (c ∷ t) some h = grind (arith, first_unblank, nat_tests)

  module _ (good : GoodLabel label) where
    good_colon : position_or_len is_colon (label ++ 58 ∷ behind_label) ≡ length label
    good_colon = grind (arith, front_len, none_passes)

    before : before_first is_colon (label ++ 58 ∷ behind_label) ≡ label
    before = rw good_colon (take_front label (58 ∷ behind_label))

    after : after_first is_colon (label ++ 58 ∷ behind_label) ≡ behind_label
    after = ap (λ n. drop (n + 1) (label ++ 58 ∷ behind_label)) good_colon ∙ drop-append-add label (58 ∷ behind_label) 1

    label_stands : is_label label ≡ true
    label_stands = grind (arith, empty_test, ends_unblank)

    line_splits : (rules : Rules) → split rules (info_line element) ≡ Some (label, behind_label)
    line_splits V10 = grind (arith, line_is, before, after, label_stands, list_any-append)
    line_splits V097 = grind (arith, line_is, before, after, label_stands, list_any-append)

    marked_nowhere : (rest : List ℕ) → has_mark (info_line element ++ rest) ≡ false
    marked_nowhere rest = grind (arith, line_is, append_assoc)

    no_line_end : list_any is_line_end value ≡ false → list_any is_line_end (info_line element) ≡ false
    no_line_end e = grind (arith, list_any-append)

-- the value of a part that stands after a colon and a space
pub value_again : (value : List ℕ) → has_outer_blank value ≡ false → value_of_parts ((32 ∷ value) ∷ []) ≡ value
value_again value e = trim_behind value ∙ trimmed value e

-- the line of an element that can be written splits at its label
module _ (e : NewElement) (good : IsGood e) where
  label_good : GoodLabel e.0
  label_good = grind (arith, or_false, not_empty, trimmed)

  value_good : (list_any is_line_end e.1 ≡ false) × (has_outer_blank e.1 ≡ false)
  value_good = grind (arith, or_false)

  pub splits : (rules : Rules) → split rules (info_line e) ≡ Some (e.0, 32 ∷ e.1)
  splits rules = line_splits e.0 e.1 label_good rules

  pub begins : begins_element (info_line e) ≡ true
  begins = grind (arith, label_good, line_is, begins_some)

  pub part_is_value : value_of_parts ((32 ∷ e.1) ∷ []) ≡ e.1
  part_is_value = value_again e.1 value_good.1

  pub written : IsWritten info_line e
  written = (
    IsUtf8-append (e.0 ++ codes ": ") e.1 (IsUtf8-append e.0 (codes ": ") (IsUtf8-from_is_utf8 e.0 good.1) few_utf8.1)
        (IsUtf8-from_is_utf8 e.1 good.2),
    no_line_end e.0 e.1 label_good value_good.0,
    marked_nowhere e.0 e.1 label_good,
  )

each_begins : (elements : List NewElement) → AllByRecursion IsGood elements
    → AllByRecursion (λ line. begins_element line ≡ true) (map info_line elements)
each_begins [] all = tt
each_begins (e ∷ elements) all = (begins e all.0, each_begins elements all.1)

-- no line goes on with the one above it
pub no_continuation : (elements : List NewElement) (k : ℕ) → AllByRecursion IsGood elements
    → leading_continuations (drop k (map info_line elements)) ≡ []
no_continuation elements k all = grind (arith, behind, each_begins)
