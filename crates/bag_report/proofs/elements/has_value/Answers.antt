use Rattle.bag_report.proofs.Conforming.{sym, ◌∙◌, rules, tests, YieldsList-from_slice, any_from_yields_List}
use Rattle.bag_report.specs.ElementFaults as reported
use Rattle.bag_report.proofs.ElementFaults.{lent_any}
use Rattle.bag_report.proofs.elements.has_value.Goals as goal

pub returns : goal.returns
returns c =
    any_from_yields_List (λ e. reported.has_value c.args.value.now e.now) _ _ _ c.any.ensures.ran
    (YieldsList-from_slice c.args.elements.now c.iter.ensures.rest) (λ x b q k. search (rules, tests))
    ∙ sym (lent_any (reported.has_value c.args.value.now) c.args.elements.now)
