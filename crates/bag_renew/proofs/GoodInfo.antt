-- The bag-info.txt that is written has no fault, where its elements can be written.
use Rattle.bag_renew.proofs.Common.{arith, ◌≡◌, ◌++◌, ◌+◌, ◌∷◌, ◌∙◌, inr, ℕ, zero, suc, Bool, true, false, not}
use Rattle.bag_renew.proofs.Common.{cond, List, [], Some, is_some, length, refl, ap, sym, subst, false≢true}
use Rattle.bag_renew.proofs.Common.{append_assoc, or_from, or_parts, list_any, filter, Info, Bag, file, writes_info}
use Rattle.bag_renew.proofs.Common.{new_elements, new_rules, Renewal}
use Rattle.std.proofs.Common.{drop, take}
use Rattle.std.proofs.lemmas.List.Folds.{list_any-append}
use Rattle.std.proofs.lemmas.Option.{slice_get-map}
use Rattle.std.specs.List.{enumerate_from, prefix_len, slice_get}
use Rattle.std.specs.Option.{option_map}
use Rattle.std.specs.Prelude.{take_while}
use Rattle.bag_text.specs.Lines.{lines_of_file}
use Rattle.bag_text.specs.Text.{IsText}
use Rattle.bag_text.specs.declared.code.Code.{Code}
use Rattle.bag_text.specs.declared.code.Code.TheVariants.{InfoLine, NoOxum, OxumAgain, OxumDiffers, OxumMalformed}
use Rattle.bag_text.specs.declared.rules.Rules.{Rules}
use Rattle.bag_read.proofs.InfoElements.{elements_of as elements_listed}
use Rattle.bag_read.specs.Info.{IsElement, IsInfoFault}
use Rattle.bag_read.specs.InfoReader.{elements}
use Rattle.bag_read.specs.Oxum.{oxum_of, oxum_text}
use Rattle.bag_read.specs.declared.info.Element.{Element}
use Rattle.bag_read.specs.declared.line_fault.LineFault.{LineFault}
use Rattle.bag_faults.specs.declared.fault.Fault.{Fault}
use Rattle.bag_report.specs.Report.{asks}
use Rattle.bag_report.specs.Valid.{full}
use Rattle.bag_stages.specs.FaultFields.{in_line}
use Rattle.bag_stages.specs.MetadataStage.{HasElement, IsOfMetadata, MetadataHolds, bag_info_txt, oxum_label}
use Rattle.bag_stages.specs.Payload.{oxum, oxum_of_files}
use Rattle.bag_stages.specs.TagFiles.{lines_in, lines_or_none}
use Rattle.bag_tags.proofs.LongInfo.{long_info_again_by}
use Rattle.bag_tags.specs.Element.{NewElement}
use Rattle.bag_tags.specs.OnLines.{text_on_lines}
use Rattle.bag_tags.specs.ReadAgain.{elements_read}
use Rattle.bag_renewed.specs.Elements.{added_to, after_oxum, appended_to, before_oxum, elements_of, goes, has_label}
use Rattle.bag_renewed.specs.Elements.{in_place_of, is_same, new_ones, replaced, some_has}
use Rattle.bag_renewed.specs.Renewed.{renewed}
use Rattle.bag_changes.specs.Valid.{CanRenew, GoodElementsAreGoodInfo, HasGoodElements, HasGoodInfo}
use Rattle.bag_renewed.specs.declared.renewal.ElementChanges.{ElementChanges}
use Rattle.bag_changes.proofs.Contents.{these_files}
use Rattle.bag_renew.proofs.KeptInfo.{kept_is_good}
use Rattle.bag_tags.proofs.OxumReads.{oxum_reads}
use Rattle.bag_facts.proofs.Mapped.{place_of}
use Rattle.bag_renew.proofs.RenewedNames.{by_new_rules, same_payload}

-- ---- one Payload-Oxum

module _ {A : Type 0} (p : A → Bool) where
  -- what passes in such a list is the one between
  only_between : (xs ys : List A) (y z : A) (k : ℕ) → list_any p xs ≡ false → list_any p ys ≡ false
      → slice_get (xs ++ (y ∷ ys)) k ≡ Some z → p z ≡ true → (k ≡ length xs) × (z ≡ y)
  only_between [] ys y z zero none rest at is = (refl, let one : y ≡ z = cc in sym one)
  only_between [] ys y z (suc k) none rest at is = absurd (none_at ys z k rest at is)
    where
      none_at : (ys : List A) (z : A) (k : ℕ) → list_any p ys ≡ false → slice_get ys k ≡ Some z → p z ≡ true → ⊥
      none_at [] z k none at is = cc
      none_at (y ∷ ys) z zero none at is =
          let one : y ≡ z = cc in
          false≢true (sym (or_parts (p y) (list_any p ys) none).0 ∙ ap p one ∙ is)
      none_at (y ∷ ys) z (suc k) none at is = none_at ys z k (or_parts (p y) (list_any p ys) none).1 at is
  only_between (x ∷ xs) ys y z zero none rest at is =
      let one : x ≡ z = cc in
      absurd (false≢true (sym (or_parts (p x) (list_any p xs) none).0 ∙ ap p one ∙ is))
  only_between (x ∷ xs) ys y z (suc k) none rest at is =
      let more = only_between xs ys y z k (or_parts (p x) (list_any p xs) none).1 rest at is in (ap suc more.0, more.1)

  before_by : (b : Bool) (x : A) (xs : List A) (n : ℕ) → p x ≡ b → list_any p (take n xs) ≡ false
      → list_any p (take (cond (not b) (1 + n) 0) (x ∷ xs)) ≡ false
  before_by true x xs n is none = refl
  before_by false x xs n isnt none =
      let one : 1 + n ≡ suc n = omega arith in
      ap (λ m. list_any p (take m (x ∷ xs))) one ∙ or_from (p x) (list_any p (take n xs)) isnt none

  none_before : (xs : List A) → list_any p (take_while (λ x. not (p x)) xs) ≡ false
  none_before [] = refl
  none_before (x ∷ xs) = before_by (p x) x xs (prefix_len (λ x. not (p x)) xs) refl (none_before xs)

  filtered_by : (b : Bool) (x : A) (rest : List A) → p x ≡ false → list_any p rest ≡ false
      → list_any p (cond b (x ∷ rest) rest) ≡ false
  filtered_by true x rest isnt none = or_from (p x) (list_any p rest) isnt none
  filtered_by false x rest isnt none = none

  none_filtered : (q : A → Bool) (xs : List A) → list_any p xs ≡ false → list_any p (filter q xs) ≡ false
  none_filtered q [] none = refl
  none_filtered q (x ∷ xs) none =
      let two = or_parts (p x) (list_any p xs) none in
      filtered_by (q x) x (filter q xs) two.0 (none_filtered q xs two.1)

  left_by : (b : Bool) (x : A) (rest : List A) → p x ≡ b → list_any p rest ≡ false
      → list_any p (cond (not b) (x ∷ rest) rest) ≡ false
  left_by true x rest is none = none
  left_by false x rest isnt none = or_from (p x) (list_any p rest) isnt none

  -- none is left where those are filtered out
  none_left : (xs : List A) → list_any p (filter (λ x. not (p x)) xs) ≡ false
  none_left [] = refl
  none_left (x ∷ xs) = left_by (p x) x (filter (λ x. not (p x)) xs) refl (none_left xs)

-- ---- none among those that are given

abbrev is_oxum : NewElement → Bool
is_oxum = has_label oxum_label

module _ (changes : ElementChanges) (none_set : list_any is_oxum changes.set ≡ false) where
  none_by : (set_so stands_before unset : Bool) (element : NewElement) → is_oxum element ≡ false
      → list_any is_oxum (cond set_so (cond stands_before [] (filter (has_label element.0) changes.set))
      (cond unset [] (element ∷ []))) ≡ false
  none_by true true unset element isnt = refl
  none_by true false unset element isnt = none_filtered is_oxum (has_label element.0) changes.set none_set
  none_by false stands_before true element isnt = refl
  none_by false stands_before false element isnt = or_from (is_oxum element) false isnt refl

  none_replaced : (before xs : List NewElement) → list_any is_oxum xs ≡ false
      → list_any is_oxum (replaced changes before xs) ≡ false
  none_replaced before [] none = refl
  none_replaced before (x ∷ xs) none =
      let two = or_parts (is_oxum x) (list_any is_oxum xs) none in
      list_any-append is_oxum (in_place_of changes before x) (replaced changes (x ∷ before) xs)
      ∙ or_from (list_any is_oxum (in_place_of changes before x)) _
      (none_by (some_has changes.set x.0) (some_has before x.0) (goes changes x.0) x two.0)
      (none_replaced (x ∷ before) xs two.1)

  none_added : (old : List NewElement) → list_any is_oxum changes.appended ≡ false
      → list_any is_oxum (added_to changes old) ≡ false
  none_added old none_appended =
      let standing = replaced changes [] old ++ new_ones changes old in
      list_any-append is_oxum (new_ones changes old) (appended_to changes standing)
      ∙ or_from (list_any is_oxum (new_ones changes old)) _
      (none_filtered is_oxum (λ element. not (some_has old element.0)) (replaced changes [] changes.set)
      (none_replaced [] changes.set none_set))
      (none_filtered is_oxum (λ element. not (list_any (is_same element) standing)) changes.appended none_appended)

-- ---- the elements that are written

module _ (bag : Bag) (renewal : Renewal) (writes : writes_info bag renewal ≡ true) (has : HasGoodElements bag renewal)
  where
    abbrev old : List NewElement
    old = replaced renewal.elements [] (elements_of bag)

    abbrev added : List NewElement
    added = added_to renewal.elements (elements_of bag)

    abbrev front : List NewElement
    front = before_oxum old ++ added

    abbrev size : NewElement
    size = (oxum_label, oxum_text (oxum bag))

    none_in_front : list_any is_oxum front ≡ false
    none_in_front =
        list_any-append is_oxum (before_oxum old) added
        ∙ or_from (list_any is_oxum (before_oxum old)) _ (none_before is_oxum old)
        (none_added renewal.elements has.set (elements_of bag) has.appended)

    only : (k : ℕ) (z : NewElement) → slice_get (new_elements bag renewal) k ≡ Some z → is_oxum z ≡ true
        → (k ≡ length front) × (z ≡ size)
    only k z at is =
        only_between is_oxum front (after_oxum old) size z k none_in_front
        (none_left is_oxum (drop (length (before_oxum old) + 1) old))
        (ap (λ es. slice_get es k) (append_assoc (before_oxum old) added (size ∷ after_oxum old)) ∙ at) is

    abbrev now : Bag
    now = renewed bag renewal

    abbrev rules : Rules
    rules = new_rules bag renewal

    abbrev written : List ℕ
    written = text_on_lines (new_elements bag renewal)

    again : IsText written × (elements_read rules written ≡ new_elements bag renewal)
        × ((f : LineFault) → ¬ (IsInfoFault rules written f))
    again = long_info_again_by rules (new_elements bag renewal) has.written.texts has.written.good

    in_file : file now bag_info_txt ≡ Some written
    in_file =
        (these_files bag renewal bag_info_txt written).1
        (inr (Info, refl, ap (λ b. cond b (Some written) (file bag bag_info_txt)) writes))

    is_written : (content : List ℕ) → file now bag_info_txt ≡ Some content → content ≡ written
    is_written content at = let both : Some content ≡ Some written = sym at ∙ in_file in cc

    abbrev read : List Element
    read = elements rules (enumerate_from 1 (lines_of_file written))

    abbrev as_new : Element → NewElement
    as_new e = (e.label, e.value)

    -- the Payload-Oxum that is read is the one that is written
    stands : (e : Element) → HasElement now oxum_label e
        → (slice_get read (length front) ≡ Some e) × (e.value ≡ oxum_text (oxum bag))
    stands e (is, same) =
        let here : IsElement rules (lines_of_file written) e =
        subst (λ o. IsElement rules (lines_or_none o) e) in_file
        (subst (λ r. IsElement r (lines_in now bag_info_txt) e) (by_new_rules bag renewal) is) in
        let place = place_of read e (((elements_listed rules (lines_of_file written)).members e).1 here) in
        let new : slice_get (new_elements bag renewal) place.0 ≡ Some (as_new e) =
        ap (λ es. slice_get es place.0) (sym again.1) ∙ slice_get-map {B = NewElement} as_new read place.0
        ∙ ap (option_map as_new) place.1 in
        let one = only place.0 (as_new e) new same in
        (ap (slice_get read) (sym one.0) ∙ place.1, ap (λ (x : NewElement). x.1) one.1)

    reads_size : oxum_of (oxum_text (oxum bag)) ≡ Some (oxum bag)
    reads_size = oxum_reads (oxum bag) has.known.size has.known.count

    same_oxum : oxum now ≡ oxum bag
    same_oxum = ap oxum_of_files (same_payload bag renewal)

    module _ (f : Fault) where
      by_code : (code : Code) → MetadataHolds now f code → asks full code ≡ true → ⊥
      unfolding MetadataHolds asks
      by_code InfoLine (at, alg, (bytes, held, wrong)) asked =
          again.2 (in_line f)
          (subst (λ b. IsInfoFault rules b (in_line f)) (is_written bytes held)
          (subst (λ r. IsInfoFault r bytes (in_line f)) (by_new_rules bag renewal) wrong))
      by_code OxumMalformed (e, at, first, none) asked =
          false≢true (ap is_some (sym none ∙ ap oxum_of (stands e first.0).1 ∙ reads_size))
      by_code OxumAgain (e, at, (later, (d, earlier, low))) asked =
          let both : Some d ≡ Some e = sym (stands d earlier).0 ∙ (stands e later).0 in
          let same : d ≡ e = cc in
          let line : d.line ≡ e.line = ap (λ (x : Element). x.line) same in
          absurd (omega (arith, line, low))
      by_code OxumDiffers (e, sums, at, first, reads_as, differs) asked =
          let both : Some sums ≡ Some (oxum bag) = sym reads_as ∙ ap oxum_of (stands e first.0).1 ∙ reads_size in
          let same : sums ≡ oxum bag = cc in
          differs (same ∙ sym same_oxum)
      by_code NoOxum h asked = false≢true asked
      by_code _ h asked = h

      no_fault : IsOfMetadata now f → asks full f.code ≡ true → ⊥
      unfolding IsOfMetadata
      no_fault h asked = by_code f.code h asked

    written_is_good : HasGoodInfo bag renewal
    written_is_good = record {
      text = λ content at. subst IsText (sym (is_written content at)) again.0;
      no_fault = no_fault;
    }

good_by : (b : Bool) (bag : Bag) (renewal : Renewal) → writes_info bag renewal ≡ b → CanRenew bag renewal
    → (writes_info bag renewal ≡ true → HasGoodElements bag renewal) → HasGoodInfo bag renewal
good_by true bag renewal writes can has = written_is_good bag renewal writes (has writes)
good_by false bag renewal keeps can has = kept_is_good bag renewal can keeps

pub good_elements_are_good_info : GoodElementsAreGoodInfo
good_elements_are_good_info bag renewal can has = good_by (writes_info bag renewal) bag renewal refl can has
