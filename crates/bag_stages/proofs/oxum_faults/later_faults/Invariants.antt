use Rattle.bag_stages.proofs.Common.{◌≡◌, map, take}
use Rattle.bag_stages.specs.OxumFaults as reported
use Rattle.bag_stages.proofs.oxum_faults.later_faults.Given as goal

abbrev pub invariant-loop-element : goal.invariant-loop-element
invariant-loop-element l = l.faults.items
    ≡ map (reported.again l.path) (reported.oxums (take l.element-index l.elements))
