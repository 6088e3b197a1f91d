use Rattle.bag_stages.proofs.Common.{take, Some, IsStrictlySortedBy, IsListOf, PayloadFileNotListed, text_cmp}
use Rattle.bag_stages.proofs.Common.{fault_cmp, entry_paths, AreByPath, paths_of, IsPathLeftOutOf}
use Rattle.bag_stages.proofs.ByItem.{OfSome}
use Rattle.bag_stages.proofs.ByPath.{WrongAt}
use Rattle.bag_stages.proofs.Sought.{Follows}
use Rattle.bag_stages.proofs.left_out.left_out_of.Given as goal

abbrev pub invariant-loop-entry : goal.invariant-loop-entry
invariant-loop-entry l =
    AreByPath l.manifest.entries → IsStrictlySortedBy text_cmp (paths_of l.files)
    → IsListOf fault_cmp
    (OfSome (WrongAt PayloadFileNotListed (Some l.manifest.alg) (IsPathLeftOutOf l.manifest.entries) (λ e. e.path))
    (take l.entry-index l.files)) l.faults.items
    × Follows (paths_of (take l.entry-index l.files)) (entry_paths l.manifest.entries) (entry_paths l.rest)
