use Rattle.bag_store.proofs.AskedOf.{both_asked, looks_asked, syncs_on}
use Rattle.bag_store.proofs.Common.{counted_since, err_from_is_err_and}
use Rattle.bag_store.proofs.syncing.sync_with_base.Goals as goal

pub returns-in_err-sync_names-clause-asked : goal.returns-in_err-sync_names-clause-asked
returns-in_err-sync_names-clause-asked g c =
    rw (err_from_is_err_and c.from_residual.result c.from_residual.ensures.1).1
    (looks_asked (g.D.Disk.state c.args.disk.now) (g.D.Disk.state c.sync_names.new.disk)
    c.in_err-sync_names.ensures.same)

pub returns-clause-syncs : goal.returns-clause-syncs
returns-clause-syncs g c =
    syncs_on (g.D.Disk.state c.args.disk.now) (g.D.Disk.state c.sync_names.new.disk)
    (g.D.Disk.state c.sync_names-2.new.disk) c.in_ok-sync_names.ensures.syncs c.sync_names-2.ensures.syncs

pub returns-clause-asked : goal.returns-clause-asked
returns-clause-asked g c =
    both_asked c.args.folder.now (g.D.Disk.state c.args.disk.now) (g.D.Disk.state c.sync_names.new.disk)
    (g.D.Disk.state c.sync_names-2.new.disk) c.sync_names-2.result
    c.in_ok-sync_names.ensures.syncs c.in_ok-sync_names.ensures.noted c.sync_names-2.ensures.noted
    c.sync_names-2.ensures.same

pub returns-clause-failures : goal.returns-clause-failures
returns-clause-failures g c =
    counted_since c.sync_names-2.result (g.D.Disk.state c.args.disk.now) (g.D.Disk.state c.sync_names.new.disk)
    (g.D.Disk.state c.sync_names-2.new.disk) c.in_ok-sync_names.ensures.failures c.sync_names-2.ensures.failures
