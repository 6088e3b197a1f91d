use Rattle.bag_changes.proofs.Common.{◌≡◌, ◌∙◌, ap, subst, sym}
use Rattle.bag_text.specs.Lines.{lines_of_file}
use Rattle.bag_changes.proofs.InfoRead.{written}
use Rattle.bag_renewed.specs.Elements.{elements_on}
use Rattle.bag_changes.specs.NewInfo.{AreRefused, CanBeWritten, elements_after, elements_from}
use Rattle.bag_changes.proofs.info.info_file.Goals as goal

pub returns-in-Err-clause-refused : goal.returns-in-Err-clause-refused
returns-in-Err-clause-refused c = λ bag of deep aim. (
  sym aim.writes_info ∙ c.if-not-target.false,
  subst (λ old. AreRefused (elements_from bag c.args.renewal.now old) c.in-Err.fault)
      (c.deref.ensures.value ∙ c.in-Ok.ensures
      ∙ ap (λ rules. elements_on rules (lines_of_file c.args.old.now)) (c.rules.ensures bag of))
      (c.in-Err.ensures.refused bag of),
)

pub returns-in-Ok-write_long_info-clause-text : goal.returns-in-Ok-write_long_info-clause-text
returns-in-Ok-write_long_info-clause-text c = λ bag of deep aim.
    let renewal = c.args.renewal.now in
    let lines = lines_of_file c.args.old.now in
    let given = c.in-Ok-new_elements.ensures in
    let same : c.deref-2.result.now ≡ elements_after bag renewal lines =
    c.deref-2.ensures.value ∙ given.elements bag of
    ∙ ap (elements_from bag renewal) (c.deref.ensures.value ∙ c.in-Ok.ensures
    ∙ ap (λ rules. elements_on rules lines) (c.rules.ensures bag of)) in
    written bag renewal lines c.deref-2.result.now _ (sym aim.writes_info ∙ c.if-not-target.false)
    same (subst CanBeWritten (sym c.deref-2.ensures.value) given.good)
    (c.from_vec.ensures ∙ c.in-Ok-write_long_info.ensures.text)
