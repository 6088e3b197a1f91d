use Rattle.bag_stages.proofs.Common.{take, IsStrictlySortedBy, IsListOf, text_cmp, fault_cmp, AreByPath, paths_of}
use Rattle.bag_stages.proofs.Common.{IsUnnamedFault}
use Rattle.bag_stages.proofs.ByItem.{OfSome}
use Rattle.bag_stages.proofs.ByPath.{FoundAt}
use Rattle.bag_stages.proofs.manifests.unnamed_faults.Given as goal

abbrev pub invariant-loop-entry : goal.invariant-loop-entry
invariant-loop-entry l =
    AreByPath l.manifest.entries → IsStrictlySortedBy text_cmp (paths_of l.files)
    → IsListOf fault_cmp
    (OfSome (FoundAt (λ e. e.path) (λ f. f.detail) (IsUnnamedFault l.path l.manifest.alg l.manifest.entries))
    (take l.entry-index l.files)) l.faults.items
