use Rattle.bag_report.proofs.Conforming.{take, AreAll, other_code, IsOtherManifest}
use Rattle.bag_report.proofs.FaultSets.{FaultsOf}
use Rattle.bag_report.proofs.FilesThere.{fault_of, HoldsOf}
use Rattle.bag_report.proofs.manifest_names.other_manifests.Given as goal

abbrev pub invariant-loop-entry : goal.invariant-loop-entry
invariant-loop-entry l =
    AreAll (FaultsOf (fault_of (other_code l.kind) (IsOtherManifest l.profile l.kind))
    (HoldsOf (other_code l.kind) (IsOtherManifest l.profile l.kind)) (take l.entry-index l.files)) l.faults.items
