use Rattle.bag_reports.specs.declared.refusal.Cause.TheVariants.{Memory}
use Rattle.bag_join.proofs.Left.{nothing_left}
use Rattle.bag_join.proofs.joining.join.Goals as goal

pub returns-in-Err-clause-left : goal.returns-in-Err-clause-left
returns-in-Err-clause-left g c = nothing_left Memory (g.W.Out.state c.args.out.now)
