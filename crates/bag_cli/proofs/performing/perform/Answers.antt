use Rattle.bag_cli.proofs.Common.{disks_of}
use Rattle.bag_cli.proofs.Arms.{performed_status}
use Rattle.bag_cli.proofs.performing.perform.Goals as goal

pub returns : goal.returns
returns g c =
    let disks = disks_of c.args.folders.now in
    let plan = c.args.plan.now in
    let done = c.perform-done.ensures in
    rw c.told_status.ensures (record {
      status =
          performed_status (g.D.Disks.below disks) (g.D.Disks.archived disks) (g.D.Disks.reported disks)
          (g.D.Disks.file disks) plan plan.action _ _ done.0 _ done.2;
      performed = done;
    })
