use Rattle.std.proofs.Common.{None}
use Rattle.bag_reports.proofs.LeftLines.{leaves_as}
use Rattle.bag_join.proofs.joining.write_again.Goals as goal

pub returns-in-Err-clause-left : goal.returns-in-Err-clause-left
returns-in-Err-clause-left g c =
    leaves_as c.in-Err.refusal.cause c.after_looking.result.cause None (g.W.Out.state c.args.out.now)
    (g.W.Out.state c.write_parts.new.out) c.after_looking.ensures.output c.in-Err.ensures.left
