use Rattle.bag_tree.proofs.Common.{length, IsTaken}
use Rattle.bag_tree.proofs.putting.put_all.Given as goal

abbrev pub invariant-loop-rest : goal.invariant-loop-rest
invariant-loop-rest g l = IsTaken (g.W.Out.state l.fn.out).taken (g.W.Out.state l.out).taken l.bytes l.rest

abbrev pub decreases-loop-rest : goal.decreases-loop-rest
decreases-loop-rest g l = length l.rest
