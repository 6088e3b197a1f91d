use Rattle.bag_stages.proofs.Common.{length, map, IsStrictlySortedBy, text_cmp}
use Rattle.bag_stages.proofs.Sought.{IsPast}
use Rattle.bag_stages.proofs.seek.seek.Given as goal

abbrev pub invariant-loop-first : goal.invariant-loop-first
invariant-loop-first g l =
    let paths = map g.T.HasPath.path_of in IsStrictlySortedBy text_cmp (paths l.fn.items)
    → IsPast l.path (paths l.fn.items) (paths l.rest)

abbrev pub decreases-loop-first : goal.decreases-loop-first
decreases-loop-first g l = length l.rest
