use Rattle.bag_report.proofs.Conforming.{take, Bag, IsFactsOf, AreAll}
use Rattle.bag_report.proofs.FaultSets.{FaultsOf}
use Rattle.bag_report.proofs.Manifests.{lacking_fault, IsLacking}
use Rattle.bag_report.proofs.manifest_names.lacking_manifests.Given as goal

abbrev pub invariant-loop-name : goal.invariant-loop-name
invariant-loop-name l =
    (bag : Bag) → IsFactsOf bag l.facts
    → AreAll (FaultsOf (lacking_fault bag l.profile l.kind) (IsLacking bag l.profile l.kind)
    (take l.name-index l.required)) l.faults.items
