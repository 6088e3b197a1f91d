use Rattle.std.proofs.Common.{[]}
use Rattle.bag_store.proofs.AskedOf.{base_synced, sync_asked}
use Rattle.bag_store.proofs.syncing.sync_folder_names.Goals as goal

pub returns-clause-asked : goal.returns-clause-asked
returns-clause-asked g c = sync_asked [] (g.D.Disk.state c.args.disk.now) (g.D.Disk.state c.sync_names.new.disk)
    c.sync_names.result c.sync_names.ensures.noted c.sync_names.ensures.same

pub returns-clause-durable : goal.returns-clause-durable
returns-clause-durable g c = base_synced (g.D.Disk.state c.args.disk.now) (g.D.Disk.state c.sync_names.new.disk)
    c.sync_names.result c.sync_names.ensures.syncs c.sync_names.ensures.noted
