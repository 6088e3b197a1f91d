-- A bag-info.txt that is kept has no fault, as it had none.
use Rattle.bag_renew.proofs.Common.{◌≡◌, ◌&&◌, ◌∙◌, inr, ℕ, Bool, true, false, not, cond, List, None, Some, refl, ap}
use Rattle.bag_renew.proofs.Common.{sym}
use Rattle.bag_renew.proofs.Common.{subst, false≢true, and_parts, Info, Bag, file, keeps, new_elements, writes_info}
use Rattle.bag_renew.proofs.Common.{Renewal}
use Rattle.std.specs.Str.{is_utf8}
use Rattle.bag_text.specs.Text.{IsText}
use Rattle.bag_text.specs.declared.code.Code.{Code}
use Rattle.bag_text.specs.declared.code.Code.TheVariants.{InfoLine, NoOxum, OxumAgain, OxumDiffers, OxumMalformed}
use Rattle.bag_read.specs.Info.{IsElement, IsInfoFault}
use Rattle.bag_read.specs.declared.info.Element.{Element}
use Rattle.bag_facts.specs.Facts.{rules_in}
use Rattle.bag_faults.specs.declared.fault.Fault.{Fault}
use Rattle.bag_report.specs.Report.{asks}
use Rattle.bag_report.specs.Valid.{full}
use Rattle.bag_stages.specs.FaultFields.{At, in_line}
use Rattle.bag_stages.specs.MetadataStage.{HasElement, HasFirst, HasLater, IsOfMetadata, MetadataHolds, bag_info_txt}
use Rattle.bag_stages.specs.MetadataStage.{oxum_label, pair}
use Rattle.bag_read.specs.Oxum.{oxum_text}
use Rattle.bag_stages.specs.Payload.{oxum, oxum_of_files}
use Rattle.bag_stages.specs.TagFiles.{lines_in, lines_or_none}
use Rattle.bag_tags.specs.OnLines.{text_on_lines}
use Rattle.bag_renewed.specs.Elements.{asks_nothing}
use Rattle.bag_renewed.specs.Renewed.{renewed}
use Rattle.bag_changes.specs.Valid.{CanRenew, HasGoodInfo}
use Rattle.bag_changes.proofs.Contents.{these_files}
use Rattle.bag_facts.proofs.Found.{same_option}
use Rattle.bag_changes.proofs.KeptOr.{keeps_rules}
use Rattle.bag_renew.proofs.OldBag.{no_metadata_fault, old_text}
use Rattle.bag_renew.proofs.RenewedNames.{by_new_rules, new_text, same_payload}

unnegated : (b : Bool) → not b ≡ false → b ≡ true
unnegated true e = refl
unnegated false e = cc

module _ (bag : Bag) (renewal : Renewal) (can : CanRenew bag renewal) (kept : writes_info bag renewal ≡ false) where
  abbrev now : Bag
  now = renewed bag renewal

  abbrev written : List ℕ
  written = text_on_lines (new_elements bag renewal)

  -- the same file, by the same rules, and the same payload
  same_info : file now bag_info_txt ≡ file bag bag_info_txt
  same_info =
      let there = ap (λ b. cond b (Some written) (file bag bag_info_txt)) kept in
      same_option (file now bag_info_txt) (file bag bag_info_txt)
      (λ c at. sym there ∙ new_text bag renewal Info c tt at)
      (λ c at. (these_files bag renewal bag_info_txt c).1 (inr (Info, refl, there ∙ at)))

  same_rules : rules_in now ≡ rules_in bag
  same_rules =
      let both = unnegated (keeps bag renewal && asks_nothing renewal.elements) kept in
      by_new_rules bag renewal
      ∙ keeps_rules bag renewal (and_parts (keeps bag renewal) (asks_nothing renewal.elements) both).0

  same_oxum : oxum now ≡ oxum bag
  same_oxum = ap oxum_of_files (same_payload bag renewal)

  had : (label : List ℕ) (e : Element) → HasElement now label e → HasElement bag label e
  had label e (is, same) = (
    subst (λ o. IsElement (rules_in bag) (lines_or_none o) e) same_info
        (subst (λ rules. IsElement rules (lines_in now bag_info_txt) e) same_rules is),
    same,
  )

  has : (label : List ℕ) (e : Element) → HasElement bag label e → HasElement now label e
  has label e (is, same) = (
    subst (λ o. IsElement (rules_in now) (lines_or_none o) e) (sym same_info)
        (subst (λ rules. IsElement rules (lines_in bag bag_info_txt) e) (sym same_rules) is),
    same,
  )

  had_first : (label : List ℕ) (e : Element) → HasFirst now label e → HasFirst bag label e
  had_first label e (is, least) = (had label e is, λ d h. least d (has label d h))

  had_later : (label : List ℕ) (e : Element) → HasLater now label e → HasLater bag label e
  had_later label e (is, (d, earlier, low)) = (had label e is, (d, had label d earlier, low))

  module _ (f : Fault) where
    as_it_was : (code : Code) → MetadataHolds now f code → asks full code ≡ true → MetadataHolds bag f code
    unfolding MetadataHolds asks
    as_it_was InfoLine (at, alg, (bytes, held, wrong)) asked =
        (at, alg, (bytes, sym same_info ∙ held, subst (λ rules. IsInfoFault rules bytes (in_line f)) same_rules wrong))
    as_it_was OxumMalformed (e, at, first, none) asked = (e, at, had_first oxum_label e first, none)
    as_it_was OxumAgain (e, at, later) asked = (e, at, had_later oxum_label e later)
    as_it_was OxumDiffers (e, sums, at, first, reads_as, differs) asked = (
      e,
      sums,
      subst (λ size. At f bag_info_txt None e.line (pair e.value (oxum_text size))) same_oxum at,
      had_first oxum_label e first,
      reads_as,
      λ same. differs (same ∙ sym same_oxum),
    )
    as_it_was NoOxum h asked = absurd (false≢true asked)
    as_it_was _ h asked = h

    no_fault : IsOfMetadata now f → asks full f.code ≡ true → ⊥
    unfolding IsOfMetadata
    no_fault h asked = no_metadata_fault bag can.damaged f (as_it_was f.code h asked) asked

  text_by : (b : Bool) (content : List ℕ) → is_utf8 content ≡ b → file now bag_info_txt ≡ Some content → IsText content
  text_by true content is at = is
  text_by false content bad at =
      absurd (old_text bag can.damaged Info content (λ same. cc) (sym same_info ∙ at) bad)

  pub kept_is_good : HasGoodInfo bag renewal
  kept_is_good =
      record { text = λ content at. text_by (is_utf8 content) content refl at; no_fault = no_fault }
