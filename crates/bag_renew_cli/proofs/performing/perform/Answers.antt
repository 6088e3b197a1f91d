use Rattle.bag_program.specs.Folders.{disks_of}
use Rattle.bag_renew_cli.proofs.Statuses.{performed_status}
use Rattle.bag_renew_cli.proofs.performing.perform.Goals as goal

pub returns : goal.returns
returns g c =
    let done = c.do_plan-done.ensures in
    rw c.told_status.ensures (record {
      status =
          performed_status (g.D.Disks.below (disks_of c.args.folders.now)) c.args.plan.now _ _ done.0 _ done.2;
      performed = done;
    })
