use Rattle.bag_stages.proofs.Common.{take, IfBagRead, HasEachOnce, IsWrong}
use Rattle.bag_stages.proofs.ByItem.{OfSome}
use Rattle.bag_stages.proofs.payload_named.payload_faults.Given as goal

abbrev pub invariant-loop-alg : goal.invariant-loop-alg
invariant-loop-alg l = IfBagRead l.facts (λ bag.
    HasEachOnce (OfSome (IsWrong bag) (take l.alg-index l.alg-items)) l.faults.items)
