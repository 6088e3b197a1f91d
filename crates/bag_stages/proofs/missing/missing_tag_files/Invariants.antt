use Rattle.bag_stages.proofs.Common.{Tag, take, IfBagRead, HasEachOnce, IsMissing}
use Rattle.bag_stages.proofs.ByItem.{OfSome}
use Rattle.bag_stages.proofs.missing.missing_tag_files.Given as goal

abbrev pub invariant-loop-alg : goal.invariant-loop-alg
invariant-loop-alg l = IfBagRead l.facts (λ bag.
    HasEachOnce (OfSome (IsMissing bag Tag) (take l.alg-index l.alg-items)) l.faults.items)
