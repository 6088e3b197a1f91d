use Rattle.bag_stages.proofs.Common.{take, IsStrictlySortedBy, IsListOf, text_cmp, Bag, fault_cmp, paths_of, AreTagsOf}
use Rattle.bag_stages.proofs.Common.{IsFileFault}
use Rattle.bag_stages.proofs.ByItem.{OfSome}
use Rattle.bag_stages.proofs.ByPath.{FoundAt}
use Rattle.bag_stages.proofs.parts.file_faults.Given as goal

abbrev pub invariant-loop-entry : goal.invariant-loop-entry
invariant-loop-entry l =
    (bag : Bag) → AreTagsOf bag l.tags → IsStrictlySortedBy text_cmp (paths_of l.files)
    → IsListOf fault_cmp (OfSome (FoundAt (λ e. e.path) (λ f. f.path) (IsFileFault bag)) (take l.entry-index l.files))
    l.faults.items
