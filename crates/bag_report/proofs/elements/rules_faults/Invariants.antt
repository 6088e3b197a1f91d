use Rattle.bag_report.proofs.Conforming.{◌≡◌, take}
use Rattle.bag_report.specs.ElementFaults as reported
use Rattle.bag_report.proofs.elements.rules_faults.Given as goal

abbrev pub invariant-loop-rule : goal.invariant-loop-rule
invariant-loop-rule l = l.faults.items ≡ reported.rules_faults (reported.lent l.sorted) (take l.rule-index l.rules)
