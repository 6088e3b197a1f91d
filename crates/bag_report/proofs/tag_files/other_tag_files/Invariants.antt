use Rattle.bag_report.proofs.Conforming.{take, TagFileNotAllowed, AreAll, IsOtherTagFile}
use Rattle.bag_report.proofs.FaultSets.{FaultsOf}
use Rattle.bag_report.proofs.FilesThere.{fault_of, HoldsOf}
use Rattle.bag_report.proofs.tag_files.other_tag_files.Given as goal

abbrev pub invariant-loop-entry : goal.invariant-loop-entry
invariant-loop-entry l =
    AreAll (FaultsOf (fault_of TagFileNotAllowed (IsOtherTagFile l.profile))
    (HoldsOf TagFileNotAllowed (IsOtherTagFile l.profile)) (take l.entry-index l.files)) l.faults.items
