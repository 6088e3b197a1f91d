use Rattle.bag_stages.proofs.Common.{take, Some, Contains, IsStrictlySortedBy, IsListOf, text_cmp, fault_cmp}
use Rattle.bag_stages.proofs.Common.{entry_paths, AreByPath, paths_of}
use Rattle.bag_stages.proofs.ByItem.{OfSome}
use Rattle.bag_stages.proofs.ByPath.{WrongAt}
use Rattle.bag_stages.proofs.Sought.{Follows}
use Rattle.bag_stages.proofs.missing.missing_in.Given as goal

abbrev pub invariant-loop-entry : goal.invariant-loop-entry
invariant-loop-entry l =
    AreByPath l.entries → IsStrictlySortedBy text_cmp (paths_of l.files)
    → IsListOf fault_cmp
    (OfSome (WrongAt l.code (Some l.alg) (λ path. ¬ (Contains (paths_of l.files) path)) (λ e. e.path))
    (take l.entry-index l.entries)) l.faults.items
    × Follows (entry_paths (take l.entry-index l.entries)) (paths_of l.files) (paths_of l.rest)
