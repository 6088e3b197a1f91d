use Rattle.bag_cli.proofs.Common.{take, Appends, unchecked_lines}
use Rattle.bag_cli.proofs.unchecked_keys.write_unchecked.Given as goal

abbrev pub invariant-loop-key : goal.invariant-loop-key
invariant-loop-key g l = Appends (g.O.Out.state l.fn.out).taken (g.O.Out.state l.out).taken
    (unchecked_lines (take l.key-index l.key-items))
