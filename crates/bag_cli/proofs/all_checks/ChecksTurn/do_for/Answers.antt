use Rattle.bag_cli.proofs.Tars.{checked_as, folder_as}
use Rattle.bag_arguments.specs.declared.plan.Action.TheVariants.{CheckTars}
use Rattle.bag_cli.proofs.all_checks.ChecksTurn.do_for.Goals as goal

pub returns-in-CheckTars-clause-done : goal.returns-in-CheckTars-clause-done
returns-in-CheckTars-clause-done g c =
    let done = c.check_tar.ensures in (
      done.0,
      done.1,
      checked_as _ CheckTars _ _ _ _ _ _ _ _ _ c.in-CheckTars.is done.2,
    )

pub returns-in-Sample-clause-done : goal.returns-in-Sample-clause-done
returns-in-Sample-clause-done g c =
    let done = c.check_folder.ensures in (
      done.0,
      done.1,
      folder_as _ _ _ _ _ _ _ _ _ _ c.in-Sample.is done.2,
    )
