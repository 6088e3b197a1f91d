use Rattle.bag_store.proofs.AskedOf.{rename_asked, rename_refused, syncs_refused}
use Rattle.bag_store.proofs.Common.{arith, looks_on, had_before, due_in_step, err_from_is_err_and}
use Rattle.bag_store.proofs.Common.{◌≡◌, Folder, HasSpecial, Some, node}
use Rattle.bag_disk.specs.DiskNodes.{WhereReached}
use Rattle.bag_store.proofs.BagSteps.{lacks_it}
use Rattle.bag_store.proofs.BaseNames.{base_reached}
use Rattle.bag_store.proofs.changing.rename_folder.Goals as goal

pub returns-in_err-check_is_folder-clause-refused : goal.returns-in_err-check_is_folder-clause-refused
returns-in_err-check_is_folder-clause-refused g c =
    let p = err_from_is_err_and c.from_residual.result c.from_residual.ensures.1 in
    let old = g.D.Disk.state c.args.disk.now in
    let from = c.args.from.now in
    rw (p.1, p.2)
    (due_in_step (WhereReached old from (HasSpecial old.nodes))
    (WhereReached old from (node old.nodes from ≡ Some Folder → ⊥)) _ _ _ _
    (λ special honest. special honest (base_reached _ _ c.requires.from))
    (λ none honest. lacks_it _ c.args.from.now c.requires.from (none honest (base_reached _ _ c.requires.from)))
    c.in_err-check_is_folder.ensures.refused)

pub returns-in-Ok-clause-renamed : goal.returns-in-Ok-clause-renamed
returns-in-Ok-clause-renamed g c = λ honest. grind (arith, looks_on, had_before, base_reached)

pub returns-in_err-sync_with_base-clause-asked : goal.returns-in_err-sync_with_base-clause-asked
returns-in_err-sync_with_base-clause-asked g c =
    let p = err_from_is_err_and c.from_residual-in_err-sync_with_base.result
    c.from_residual-in_err-sync_with_base.ensures.1 in
    rw p.1
    (syncs_refused (g.D.Disk.state c.args.disk.now) (g.D.Disk.state c.check_is_folder.new.disk)
    (g.D.Disk.state c.sync_with_base.new.disk) c.in_ok-check_is_folder.ensures.looks
    c.in_err-sync_with_base.ensures.asked)

pub returns-in_err-check_free-clause-asked : goal.returns-in_err-check_free-clause-asked
returns-in_err-check_free-clause-asked g c =
    let p = err_from_is_err_and c.from_residual-in_err-check_free.result
    c.from_residual-in_err-check_free.ensures.1 in
    rw p.1
    (rename_refused _ (g.D.Disk.state c.args.disk.now) (g.D.Disk.state c.check_is_folder.new.disk)
    (g.D.Disk.state c.sync_with_base.new.disk) (g.D.Disk.state c.check_free.new.disk)
    c.in_ok-check_is_folder.ensures.looks c.in_ok-sync_with_base.ensures.asked c.in_err-check_free.ensures.looks)

pub returns-in-Ok-clause-asked : goal.returns-in-Ok-clause-asked
returns-in-Ok-clause-asked g c =
    rename_asked c.args.from.now c.args.to.now (g.D.Disk.state c.args.disk.now)
    (g.D.Disk.state c.check_is_folder.new.disk) (g.D.Disk.state c.sync_with_base.new.disk)
    (g.D.Disk.state c.check_free.new.disk)
    (g.D.Disk.state c.rename.new.self) c.in_ok-check_is_folder.ensures.looks c.in_ok-sync_with_base.ensures.syncs
    c.in_ok-sync_with_base.ensures.asked c.in_ok-check_free.ensures.looks c.in-Ok.ensures.noted

pub returns-in-Err-clause-asked : goal.returns-in-Err-clause-asked
returns-in-Err-clause-asked g c =
    rename_refused _ (g.D.Disk.state c.args.disk.now) (g.D.Disk.state c.check_is_folder.new.disk)
    (g.D.Disk.state c.sync_with_base.new.disk) (g.D.Disk.state c.rename.new.self)
    c.in_ok-check_is_folder.ensures.looks c.in_ok-sync_with_base.ensures.asked
    (looks_on (g.D.Disk.state c.sync_with_base.new.disk) (g.D.Disk.state c.check_free.new.disk)
    (g.D.Disk.state c.rename.new.self) c.in_ok-check_free.ensures.looks c.in-Err.ensures.same)
