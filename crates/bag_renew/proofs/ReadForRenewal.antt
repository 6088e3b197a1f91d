-- What was read for a renewal, with the metadata that is written.
use Rattle.bag_renew.proofs.Common.{◌≡◌, ◌≢◌, ◌∙◌, inr, ℕ, List, [], ◌∷◌, Bool, true, false, ◌||◌, Option, None, Some}
use Rattle.bag_renew.proofs.Common.{IsTrue, arith, refl, sym, ap, subst}
use Rattle.bag_renew.proofs.Common.{cond, filter, is_payload_path, list_any, not, new_elements, Bag, File, Renewal}
use Rattle.bag_checked.proofs.CheckedBag.{all_files}
use Rattle.bag_checked.specs.Summed.{files_to_read}
use Rattle.bag_text.specs.Code.{stage}
use Rattle.bag_text.specs.Lines.{lines_of_file}
use Rattle.bag_facts.specs.FactsOfBag.{IfBagRead}
use Rattle.bag_facts.specs.declared.facts.Facts.{Facts}
use Rattle.bag_faults.specs.declared.options.Depth.TheVariants.{Declaration}
use Rattle.bag_faults.specs.declared.options.Options.{Options}
use Rattle.bag_stages.specs.MetadataStage.{oxum_label}
use Rattle.bag_tags.specs.Element.{NewElement}
use Rattle.bag_tags.specs.OnLines.{is_bad_long_element, text_on_lines}
use Rattle.bag_tree.specs.Tree.{TreeState}
use Rattle.bag_renewed.specs.Elements.{has_label}
use Rattle.bag_changes.specs.NewInfo.{IsInfoAfter, IsInfoRefusal, IsNewInfo}
use Rattle.bag_changes.specs.Reading.{HasReadBag, IsReadForRenewal, MayRefuseReading}
use Rattle.bag_checked.specs.FirstFaults.{HasNoEarlyFault}
use Rattle.bag_renewed.specs.Renewed.{writes_info}
use Rattle.bag_renewed.specs.Request.{is_bad_request, is_refused}
use Rattle.bag_changes.specs.Valid.{HasGoodElements, HasKnownSize}
use Rattle.bag_report.specs.Valid.{full}
use Rattle.bag_changes.specs.declared.fault.RenewFault.{RenewFault}
use Rattle.bag_changes.specs.declared.fault.RenewFault.TheVariants as why
use Rattle.bag_renewed.specs.declared.renewal.ElementChanges.{ElementChanges}
use Rattle.bag_tags.specs.declared.summed.SummedFile.{SummedFile}

left_false : (a b : Bool) → (a || b) ≡ false → a ≡ false
left_false false b none = refl
left_false true b none = none

right_false : (a b : Bool) → (a || b) ≡ false → b ≡ false
right_false false b none = none
right_false true b none = let clash : true ≡ false = none in cc

none_computed : (elements : List NewElement) → list_any is_refused elements ≡ false
    → list_any (has_label oxum_label) elements ≡ false
none_computed [] none = refl
none_computed (e ∷ elements) none =
    let here = right_false (is_bad_long_element e) (has_label oxum_label e)
    (left_false (is_refused e) (list_any is_refused elements) none) in
    let others = none_computed elements (right_false (is_refused e) (list_any is_refused elements) none) in
    (λ i. here i || list_any (has_label oxum_label) elements) ∙ others

-- a request that isn't refused gives no Payload-Oxum
pub good_request : (changes : ElementChanges) → is_bad_request changes ≡ false
    → (list_any (has_label oxum_label) changes.set ≡ false) × (list_any (has_label oxum_label) changes.appended ≡ false)
good_request changes none = (
  none_computed changes.set (left_false (list_any is_refused changes.set) _ none),
  none_computed changes.appended
      (left_false (list_any is_refused changes.appended) _ (right_false (list_any is_refused changes.set) _ none)),
)

module _ (renewal : Renewal) (old new : TreeState) (facts : Facts) (summed : List SummedFile) (read : List ℕ)
    (h : HasReadBag renewal old new facts summed read) where
  pub deep : facts.options.depth ≢ Declaration
  deep e = let at : full.depth ≡ Declaration = sym (ap (λ (o : Options). o.depth) h.options) ∙ e in cc

  good_elements : (bag : Bag) (info : Option (List ℕ)) → is_bad_request renewal.elements ≡ false
      → IsNewInfo bag renewal info → writes_info bag renewal ≡ true → HasKnownSize bag → HasGoodElements bag renewal
  good_elements bag None asked none writes size = let clash : false ≡ true = sym none ∙ writes in cc
  good_elements bag (Some text) asked is writes size = let good = good_request renewal.elements asked in record {
    written = is.1;
    set = good.0;
    appended = good.1;
    known = size;
  }

  -- of an honest tree it is written of the bag
  pub new_info : IsTrue old.honest → (info : Option (List ℕ))
      → IfBagRead facts (λ bag. IsInfoAfter bag renewal (lines_of_file read) info) → IsNewInfo old.bag renewal info
  new_info honest info is =
      subst (λ lines. IsInfoAfter old.bag renewal lines info) (h.lines honest) (is old.bag (h.of_bag honest) deep)

  no_early : IsTrue old.honest → HasNoEarlyFault old.bag
  no_early honest f has early =
      let seventh : stage f.code ≡ 7 = ap stage ((h.read.can honest).damaged f has) in absurd (omega (arith, seventh, early))

  -- the metadata that is written can be
  pub read_for_renewal : (info : Option (List ℕ)) → is_bad_request renewal.elements ≡ false
      → IfBagRead facts (λ bag. IsInfoAfter bag renewal (lines_of_file read) info)
      → IsReadForRenewal renewal old new
  read_for_renewal info asked is = record {
    bag = h.read;
    elements = λ honest. good_elements old.bag info asked (new_info honest info is);
  }

  -- or it can't
  pub info_refused : (fault : RenewFault)
      → IfBagRead facts (λ bag. IsInfoRefusal bag renewal (lines_of_file read) fault)
      → MayRefuseReading renewal old new fault
  info_refused why.BadValue is = inr (λ honest.
      let refused =
      subst (λ lines. IsInfoRefusal old.bag renewal lines why.BadValue) (h.lines honest)
      (is old.bag (h.of_bag honest) deep) in (no_early honest, h.read.no_obstacle honest, refused.0, refused.1))
  info_refused why.Memory is = inr h.read.no_failure
  info_refused (why.Faulty f) is = absurd (is h.seen.0 h.seen.2 deep).1
  info_refused why.NoAlgorithm is = absurd (is h.seen.0 h.seen.2 deep).1
  info_refused (why.InTheWay n) is = absurd (is h.seen.0 h.seen.2 deep).1
  info_refused (why.Unnameable p) is = absurd (is h.seen.0 h.seen.2 deep).1
  info_refused (why.Outdated p) is = absurd (is h.seen.0 h.seen.2 deep).1
  info_refused (why.Unlisted p) is = absurd (is h.seen.0 h.seen.2 deep).1
  info_refused why.Fetch is = absurd (is h.seen.0 h.seen.2 deep).1
  info_refused (why.ReadStopped s) is = absurd (is h.seen.0 h.seen.2 deep).1
  info_refused (why.PutRefused n q) is = absurd (is h.seen.0 h.seen.2 deep).1
  info_refused (why.RemoveRefused n q) is = absurd (is h.seen.0 h.seen.2 deep).1

  -- memory ran out for the changes
  pub changes_refused : MayRefuseReading renewal old new why.Memory
  changes_refused = inr h.read.no_failure

-- ---- for the composition

-- the files that are read: all of them, or all but those of the payload
pub read_files_are : (with_payload : Bool) (files : List File)
    → files_to_read with_payload files ≡ cond with_payload files (filter (λ e. not (is_payload_path e.0)) files)
read_files_are true files = all_files files
read_files_are false files = refl

-- the text of the metadata, where it is written
pub info_is : (bag : Bag) (renewal : Renewal) (info : Option (List ℕ)) → IsNewInfo bag renewal info
    → info ≡ cond (writes_info bag renewal) (Some (text_on_lines (new_elements bag renewal))) None
info_is bag renewal None none =
    sym (ap (λ b. cond b (Some (text_on_lines (new_elements bag renewal))) None) none)
info_is bag renewal (Some text) is =
    ap Some is.2 ∙ sym (ap (λ b. cond b (Some (text_on_lines (new_elements bag renewal))) None) is.0)
