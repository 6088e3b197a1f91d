use Rattle.bag_make.proofs.Common.{take, HasTaken}
use Rattle.bag_make.proofs.step.take_steps.Given as goal

abbrev pub invariant-loop-place : goal.invariant-loop-place
invariant-loop-place g l = let state = g.T.Tree.state
    in HasTaken (take l.place l.steps) (state l.fn.tree) (state l.tree)
