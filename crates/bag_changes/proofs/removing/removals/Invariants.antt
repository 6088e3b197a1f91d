use Rattle.bag_changes.proofs.Common.{◌≡◌, take}
use Rattle.bag_changes.specs.Changes.{removals_of}
use Rattle.bag_changes.proofs.removing.removals.Given as goal

abbrev pub invariant-loop-alg : goal.invariant-loop-alg
invariant-loop-alg l = l.changes.items ≡ removals_of l.fn.kind (take l.alg-index l.algs)
