use Rattle.bag_report.proofs.Conforming.{◌≡◌, map, take}
use Rattle.bag_report.specs.ElementFaults as reported
use Rattle.bag_report.proofs.label_rule.later_faults.Given as goal

abbrev pub invariant-loop-element : goal.invariant-loop-element
invariant-loop-element l = l.faults.items
    ≡ map (reported.later_fault l.label) (reported.lent (take l.element-index l.later))
