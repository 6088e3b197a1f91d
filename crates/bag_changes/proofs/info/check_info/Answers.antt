use Rattle.bag_changes.proofs.Common.{◌≡◌, ◌∙◌, ap, false, false≢true, list_any, subst, sym}
use Rattle.bag_tags.specs.OnLines.{is_bad_long_element}
use Rattle.bag_changes.specs.NewInfo.{AreRefused, elements_from}
use Rattle.bag_changes.proofs.info.check_info.Goals as goal

pub returns-then-not-target-clause-good : goal.returns-then-not-target-clause-good
returns-then-not-target-clause-good c = λ bag of deep aim writes.
    absurd (false≢true (sym c.if-not-target.true ∙ aim.writes_info ∙ writes))

pub returns-in-Ok-new_elements-clause-good : goal.returns-in-Ok-new_elements-clause-good
returns-in-Ok-new_elements-clause-good c = λ bag of deep aim writes.
    let given = c.in-Ok-new_elements.ensures in
    subst (λ elements. list_any is_bad_long_element elements ≡ false)
    (given.elements bag of
    ∙ ap (elements_from bag c.args.renewal.now) (c.deref.ensures.value ∙ c.in-Ok.ensures bag of deep))
    given.good.good

pub returns-clause-refused : goal.returns-clause-refused
returns-clause-refused c = λ bag of deep aim. (
  sym aim.writes_info ∙ c.if-not-target.false,
  subst (λ old. AreRefused (elements_from bag c.args.renewal.now old) c.in-Err.fault)
      (c.deref.ensures.value ∙ c.in-Ok.ensures bag of deep) (c.in-Err.ensures.refused bag of),
)
