use Rattle.bag_sources.proofs.Common.{length, option_copied}
use Rattle.bag_sources.proofs.Summing.{GoneThrough}
use Rattle.bag_sources.proofs.validity.next_faults.Given as goal

abbrev pub invariant-loop-file : goal.invariant-loop-file
invariant-loop-file g l = GoneThrough l.initial.pending l.pending (option_copied l.after)
    (g.T.Tree.state l.initial.tree) (g.T.Tree.state l.tree)

abbrev pub decreases-loop-file : goal.decreases-loop-file
decreases-loop-file g l = length l.pending
