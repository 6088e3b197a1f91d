use Rattle.bag_tree.specs.Tree.{Keeps}
use Rattle.example_calls.proofs.passing.check_what_can_be_read.Given as goal

abbrev pub invariant-loop-passed : goal.invariant-loop-passed
invariant-loop-passed g l = Keeps (g.T.Tree.state l.fn.tree) (g.T.Tree.state l.walk.tree)
