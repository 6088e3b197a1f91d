use Rattle.bag_renew_cli.proofs.Common.{err_from_is_err_and}
use Rattle.bag_renew_cli.proofs.Texts.{cut_after}
use Rattle.bag_renew_cli.specs.PlannedLines.{change_line}
use Rattle.bag_renew_cli.proofs.planned_lines.put_changes.Goals as goal

pub returns-in_err-put_change : goal.returns-in_err-put_change
returns-in_err-put_change g c =
    rw (err_from_is_err_and c.from_residual.result c.from_residual.ensures.1).1 (
      cut_after (change_line c.args.name.now) _ _ _ _ c.loop-change.change-index c.change-item.result
          c.loop-change-test.true c.change-item.is c.loop-change.invariant c.in_err-put_change.ensures.0,
      c.in_err-put_change.ensures.1,
    )
