use Rattle.bag_renew_cli.proofs.Common.{take, Appends}
use Rattle.std.specs.Prelude.{flat_map}
use Rattle.bag_renew_cli.specs.Printing.{text_of}
use Rattle.bag_renew_cli.proofs.printing.put_texts.Given as goal

abbrev pub invariant-loop-one : goal.invariant-loop-one
invariant-loop-one g l = Appends (g.W.Out.state l.fn.out).taken (g.W.Out.state l.out).taken
    (flat_map text_of (take l.one-index l.made))
