use Rattle.bag_stages.proofs.Common.{None, take, IsListOf, PayloadFileNotListed}
use Rattle.bag_stages.proofs.Common.{fault_cmp, IfBagRead, IsPathNamedByNone}
use Rattle.bag_stages.proofs.ByItem.{OfSome}
use Rattle.bag_stages.proofs.ByPath.{WrongAt}
use Rattle.bag_stages.proofs.left_out.named_by_none_among.Given as goal

abbrev pub invariant-loop-entry : goal.invariant-loop-entry
invariant-loop-entry l =
    IfBagRead l.facts (λ bag.
    IsListOf fault_cmp
    (OfSome (WrongAt PayloadFileNotListed None (IsPathNamedByNone bag) (λ e. e.path))
    (take l.entry-index l.entry-items)) l.faults.items)
