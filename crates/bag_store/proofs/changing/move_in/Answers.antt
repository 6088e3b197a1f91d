use Rattle.bag_store.proofs.AskedOf.{move_asked}
use Rattle.bag_store.proofs.changing.move_in.Goals as goal

pub returns-clause-asked : goal.returns-clause-asked
returns-clause-asked g c =
    move_asked c.args.top.now c.args.folder.now (g.D.Disk.state c.args.disk.now)
    (g.D.Disk.state c.sync_folder_names.new.disk) (g.D.Disk.state c.move_below.new.disk) c.move_below.result
    c.in_ok-sync_folder_names.ensures.syncs c.in_ok-sync_folder_names.ensures.asked
    c.in_ok-sync_folder_names.ensures.durable c.move_below.ensures.noted c.move_below.ensures.same
