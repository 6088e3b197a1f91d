use Rattle.bag_renew_cli.proofs.Common.{take, Appends}
use Rattle.bag_renew_cli.specs.PlannedLines.{change_lines}
use Rattle.bag_renew_cli.proofs.planned_lines.put_changes.Given as goal

abbrev pub invariant-loop-change : goal.invariant-loop-change
invariant-loop-change g l = Appends (g.W.Out.state l.fn.out).taken (g.W.Out.state l.out).taken
    (change_lines l.name (take l.change-index l.changes))
