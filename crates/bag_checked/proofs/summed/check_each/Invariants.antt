use Rattle.bag_checked.proofs.Summing.{ChecksFirst}
use Rattle.bag_checked.proofs.summed.check_each.Given as goal

abbrev pub invariant-loop-entry : goal.invariant-loop-entry
invariant-loop-entry g l =
    ChecksFirst l.fn.facts l.files l.entry-index l.fn.with_payload l.fn.algs (g.T.Tree.state l.fn.tree)
    (g.T.Tree.state l.tree)
    l.summed.items l.info
