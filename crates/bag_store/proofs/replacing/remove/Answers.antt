use Rattle.bag_store.proofs.Common.{inl, err_from_is_err_and}
use Rattle.bag_store.proofs.AskedOf.{looked, syncs_on}
use Rattle.bag_store.proofs.FirstOf.{not_removed, not_removed_synced, remove_asked}
use Rattle.bag_store.proofs.replacing.remove.Goals as goal

pub returns-in_err-sync_with_file-clause-asked : goal.returns-in_err-sync_with_file-clause-asked
returns-in_err-sync_with_file-clause-asked g c =
    rw (err_from_is_err_and c.from_residual.result c.from_residual.ensures.1).1
    (not_removed c.args.name.now (g.D.Disk.state c.args.disk.now) (g.D.Disk.state c.sync_with_file.new.disk)
    c.in_err-sync_with_file.ensures.same)

pub returns-in-Ok-clause-asked : goal.returns-in-Ok-clause-asked
returns-in-Ok-clause-asked g c =
    remove_asked c.args.name.now (g.D.Disk.state c.args.disk.now) (g.D.Disk.state c.sync_with_file.new.disk)
    (g.D.Disk.state c.remove.new.self) (g.D.Disk.state c.sync_names.new.disk) c.sync_names.result
    c.in_ok-sync_with_file.ensures.syncs c.in_ok-sync_with_file.ensures.noted c.in-Ok.ensures.noted
    c.in-Ok.ensures.closed.noted c.sync_names.ensures.noted c.sync_names.ensures.same

pub returns-in-Err-clause-left : goal.returns-in-Err-clause-left
returns-in-Err-clause-left g c = inl
    (syncs_on (g.D.Disk.state c.args.disk.now) (g.D.Disk.state c.sync_with_file.new.disk)
    (g.D.Disk.state c.remove.new.self) c.in_ok-sync_with_file.ensures.syncs
    (looked (g.D.Disk.state c.sync_with_file.new.disk) (g.D.Disk.state c.remove.new.self) c.in-Err.ensures.same))

pub returns-in-Err-clause-asked : goal.returns-in-Err-clause-asked
returns-in-Err-clause-asked g c =
    not_removed_synced c.args.name.now (g.D.Disk.state c.args.disk.now) (g.D.Disk.state c.sync_with_file.new.disk)
    (g.D.Disk.state c.remove.new.self) c.in_ok-sync_with_file.ensures.noted c.in-Err.ensures.same
