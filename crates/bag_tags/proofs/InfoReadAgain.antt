-- The elements that are written are read again, and no others, with no fault.
use Rattle.bag_tags.proofs.Common.{Bool, List, None, Some, [], ap, arith, false, inl, inr, map, not, subst, sym, true}
use Rattle.bag_tags.proofs.Common.{ℕ, ◌&&◌, ◌∙◌, ◌∷◌, ◌≡◌, recursion_from_All, none-some, AllByRecursion, list_any}
use Rattle.bag_tags.proofs.Common.{or_false, InfoFault, IsElement, begins_element, continuations, split, value_of_parts}
use Rattle.bag_tags.proofs.Common.{LineFault, IsLine, lines_of_file, Code, InfoLine, NotUtf8, V10, NewElement}
use Rattle.bag_tags.proofs.Common.{info_line, info_text, is_bad_element, InfoIsReadAgain, StandsOn, AreTexts}
use Rattle.bag_text.specs.declared.rules.Rules.{Rules}
use Rattle.bag_read.specs.declared.info.Element.{Element}
use Rattle.bag_tags.specs.ReadAgain.{InfoIsReadAgainBy}
use Rattle.bag_tags.proofs.InfoLines.{IsGood, splits, begins, part_is_value, written, no_continuation}
use Rattle.bag_tags.proofs.WrittenLines.{IsWritten, at_place, file_lines, is_text, line_of_item, item_on_line}

good_each : (elements : List NewElement) → AllByRecursion AreTexts elements
    → list_any is_bad_element elements ≡ false → AllByRecursion IsGood elements
good_each [] texts e = tt
good_each (x ∷ xs) texts e =
    let two =
    or_false (is_bad_element x) (list_any is_bad_element xs) e
    in ((two.0, texts.0.0, texts.0.1), good_each xs texts.1 two.1)

written_each : (elements : List NewElement) → AllByRecursion IsGood elements
    → AllByRecursion (IsWritten info_line) elements
written_each [] all = tt
written_each (x ∷ xs) all = (written x all.0, written_each xs all.1)

no_both : (b w : Bool) → (not b && w) ≡ true → (not b && not w) ≡ true → ⊥
no_both b w e f = grind arith

same_split : (x y : NewElement) → Some x ≡ Some y → (x.0 ≡ y.0) × (x.1 ≡ y.1)
same_split x y e = let same : x ≡ y = cc in (ap (λ (p : NewElement). p.0) same, ap (λ (p : NewElement). p.1) same)

module _ (rules : Rules) (elements : List NewElement) (all : AllByRecursion IsGood elements) where
  abbrev here : List (List ℕ)
  here = map info_line elements

  good_at : (n : ℕ) (x : NewElement) → StandsOn elements n x → IsGood x
  good_at n x (k, at, is) = at_place IsGood elements k x all is

  value_at : (n : ℕ) (x : NewElement) → StandsOn elements n x → value_of_parts ((32 ∷ x.1) ∷ continuations here n) ≡ x.1
  value_at n x stands = grind (arith, part_is_value x (good_at n x stands), no_continuation, good_at)

  to : (e : Element) → IsElement rules here e → StandsOn elements e.line (e.label, e.value)
  to e (line, part, is, first, cut, whole) =
      let (x, stands, same) = line_of_item info_line elements e.line line is in
      let (label, behind) =
      same_split (e.label, part) (x.0, 32 ∷ x.1)
      (sym cut ∙ ap (split rules) same ∙ splits x (good_at e.line x stands) rules) in
      let value : e.value ≡ x.1 =
      whole ∙ ap (λ p. value_of_parts (p ∷ continuations here e.line)) behind ∙ value_at e.line x stands in
      let pair : ◌≡◌ {A = NewElement} x (e.label, e.value) = λ i. (sym label i, sym value i) in
      subst (StandsOn elements e.line) pair stands

  from : (e : Element) → StandsOn elements e.line (e.label, e.value) → IsElement rules here e
  from e stands =
      let x : NewElement = (e.label, e.value) in
      let good = good_at e.line x stands in (
        info_line x,
        32 ∷ e.value,
        item_on_line info_line elements e.line x stands,
        begins x good,
        splits x good rules,
        sym (value_at e.line x stands),
      )

  no_fault_at : (n : ℕ) (line : List ℕ) → IsLine here n line
      → (begins_element line ≡ true) × (split rules line ≡ None → ⊥)
  no_fault_at n line is =
      let (x, stands, same) = line_of_item info_line elements n line is in
      let good = good_at n x stands in
      (ap begins_element same ∙ begins x good, λ none. none-some _ (sym none ∙ ap (split rules) same ∙ splits x good rules))

  abbrev bytes : List ℕ
  bytes = info_text elements

  lines_are : lines_of_file bytes ≡ here
  lines_are = file_lines info_line elements (written_each elements all)

  no_fault : (code : Code) (f : LineFault) → InfoFault rules code bytes f → ⊥
  no_fault NotUtf8 f w =
      let clash : true ≡ false = sym (is_text info_line elements (written_each elements all)) ∙ w.2 in cc
  no_fault InfoLine f (line, detail, is, inl cut) =
      (no_fault_at f.line line (subst (λ ls. IsLine ls f.line line) lines_are is)).1 cut.1
  no_fault InfoLine f (line, detail, is, inr orphan) = grind (arith, no_both, no_fault_at, lines_are)
  no_fault other f w = w

pub info_again_by : (rules : Rules) → InfoIsReadAgainBy rules
info_again_by rules elements texts fine =
    let all = good_each elements (recursion_from_All _ elements texts) fine in
    let same = lines_are rules elements all in (
      λ e. (
        λ is. to rules elements all e (subst (λ ls. IsElement rules ls e) same is),
        λ stands. subst (λ ls. IsElement rules ls e) (sym same) (from rules elements all e stands),
      ),
      λ f w. no_fault rules elements all f.code f w,
    )

pub info_again : InfoIsReadAgain
info_again = info_again_by V10
