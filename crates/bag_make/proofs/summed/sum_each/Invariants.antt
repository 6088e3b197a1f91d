use Rattle.bag_make.proofs.Summing.{SumsFirst}
use Rattle.bag_make.proofs.summed.sum_each.Given as goal

abbrev pub invariant-loop-entry : goal.invariant-loop-entry
invariant-loop-entry g l = SumsFirst l.files l.entry-index l.fn.algs (g.T.Tree.state l.fn.tree) (g.T.Tree.state l.tree)
    l.summed.items
