use Rattle.bag_store.proofs.AskedOf.{folder_asked, folder_refused, had_synced, looked, looks_asked, syncs_on}
use Rattle.bag_store.proofs.Common.{arith, looks_on, had_before, step_due_for, err_from_is_err_and}
use Rattle.bag_store.proofs.BaseNames.{base_reached}
use Rattle.bag_store.proofs.changing.make_folder.Goals as goal

pub returns-in_err-sync_names-clause-asked : goal.returns-in_err-sync_names-clause-asked
returns-in_err-sync_names-clause-asked g c =
    rw (err_from_is_err_and c.from_residual.result c.from_residual.ensures.1).1
    (looks_asked (g.D.Disk.state c.args.disk.now) (g.D.Disk.state c.sync_names.new.disk)
    c.in_err-sync_names.ensures.same)

pub returns-in-Ok-clause-made : goal.returns-in-Ok-clause-made
returns-in-Ok-clause-made g c = grind (arith, had_synced, base_reached)

pub returns-in-Ok-clause-asked : goal.returns-in-Ok-clause-asked
returns-in-Ok-clause-asked g c =
    folder_asked c.args.name.now (g.D.Disk.state c.args.disk.now) (g.D.Disk.state c.sync_names.new.disk)
    (g.D.Disk.state c.make_folder.new.self)
    c.in_ok-sync_names.ensures.syncs c.in_ok-sync_names.ensures.noted c.in-Ok.ensures.noted

pub not_made-requires-clause-there : goal.not_made-requires-clause-there
not_made-requires-clause-there g c = λ is honest. grind (arith, base_reached)

pub returns-in-Err-clause-same : goal.returns-in-Err-clause-same
returns-in-Err-clause-same g c =
    let at = g.D.Disk.state c.make_folder.new.self in
    let looks =
    looks_on (g.D.Disk.state c.sync_names.new.disk) at (g.D.Disk.state c.not_made.new.disk)
    c.in-Err.ensures.same c.not_made.ensures.looks in
    syncs_on (g.D.Disk.state c.args.disk.now) (g.D.Disk.state c.sync_names.new.disk)
    (g.D.Disk.state c.not_made.new.disk) c.in_ok-sync_names.ensures.syncs
    (looked (g.D.Disk.state c.sync_names.new.disk) (g.D.Disk.state c.not_made.new.disk) looks)

pub returns-in-Err-clause-asked : goal.returns-in-Err-clause-asked
returns-in-Err-clause-asked g c =
    folder_refused (g.D.Disk.state c.args.disk.now) (g.D.Disk.state c.sync_names.new.disk)
    (g.D.Disk.state c.make_folder.new.self) (g.D.Disk.state c.not_made.new.disk)
    c.in_ok-sync_names.ensures.noted c.in-Err.ensures.same c.not_made.ensures.looks

pub returns-in-Err-clause-refused : goal.returns-in-Err-clause-refused
returns-in-Err-clause-refused g c = grind (arith, looks_on, step_due_for, had_before, had_synced)

pub returns-in-Err-clause-failures : goal.returns-in-Err-clause-failures
returns-in-Err-clause-failures g c = grind arith
