use Rattle.bag_report.proofs.Conforming.{◌∙◌, IfOk-weaker}
use Rattle.bag_report.proofs.RulesInTurn.{later_repeated}
use Rattle.bag_report.proofs.label_rule.repeated_faults.Goals as goal

pub returns : goal.returns
returns c =
    IfOk-weaker c.later_faults.result _ _
    (λ faults is. is ∙ later_repeated c.args.rule.now c.args.found.now c.if-rule.false) c.later_faults.ensures
