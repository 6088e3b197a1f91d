use Rattle.bag_report.proofs.Conforming.{◌≡◌, take}
use Rattle.bag_report.specs.ElementFaults as reported
use Rattle.bag_report.proofs.label_rule.value_faults.Given as goal

abbrev pub invariant-loop-element : goal.invariant-loop-element
invariant-loop-element l = l.faults.items ≡ reported.value_faults l.rule (reported.lent (take l.element-index l.found))
