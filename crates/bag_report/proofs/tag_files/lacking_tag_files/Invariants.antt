use Rattle.bag_report.proofs.Conforming.{take, Bag, IsFactsOf, AreAll}
use Rattle.bag_report.proofs.FaultSets.{FaultsOf}
use Rattle.bag_report.proofs.TagFiles.{lacking_fault, IsLacking}
use Rattle.bag_report.proofs.tag_files.lacking_tag_files.Given as goal

abbrev pub invariant-loop-path : goal.invariant-loop-path
invariant-loop-path l =
    (bag : Bag) → IsFactsOf bag l.facts
    → AreAll (FaultsOf (lacking_fault bag l.profile) (IsLacking bag l.profile) (take l.path-index l.required))
    l.faults.items
