use Rattle.bag_report.proofs.Conforming.{arith}
use Rattle.bag_report.proofs.RulesInTurn.{one_rule_more}
use Rattle.bag_report.proofs.elements.rules_faults.Goals as goal

pub loop-rule-preserved : goal.loop-rule-preserved
loop-rule-preserved c = grind (arith, one_rule_more)
