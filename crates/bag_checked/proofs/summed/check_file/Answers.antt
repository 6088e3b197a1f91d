use Rattle.bag_checked.proofs.FirstOpened.{left_of_one}
use Rattle.bag_checked.proofs.summed.check_file.Goals as goal

pub returns-in-Err-clause-unchecked : goal.returns-in-Err-clause-unchecked
returns-in-Err-clause-unchecked g c =
    left_of_one c.args.facts.now c.args.entry.now c.in-Ok-given_for.expected (g.T.Tree.state c.args.tree.now)
    (g.T.Tree.state c.check_or_keep.new.tree) c.in-Err.unchecked c.in-Ok-given_for.ensures c.in-Err.ensures.unchecked
