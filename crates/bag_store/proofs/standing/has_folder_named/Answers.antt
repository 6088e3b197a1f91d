use Rattle.bag_store.proofs.BagSteps.{folder_standing}
use Rattle.bag_store.proofs.BaseNames.{base_reached}
use Rattle.bag_store.proofs.Common.{HasSpecial, IsReachedByFolders, IsTrue, arith, only_for, err_from_is_err_and, folder_of_disk, sym}
use Rattle.bag_disk.specs.declared.refusal.Refusal.TheVariants.{Special}
use Rattle.bag_store.proofs.standing.has_folder_named.Goals as goal

pub returns-in_err-standing_at-clause-refused : goal.returns-in_err-standing_at-clause-refused
returns-in_err-standing_at-clause-refused g c =
    let p = err_from_is_err_and c.from_residual.result c.from_residual.ensures.1 in
    let old = g.D.Disk.state c.args.disk.now in
    rw (p.1, p.2)
    (only_for Special (IsTrue old.honest → IsReachedByFolders old.nodes c.args.name.now → HasSpecial old.nodes) _ _
    (λ special honest. special honest (base_reached _ _ c.requires))
    c.in_err-standing_at.ensures.refused)

pub returns-in-Some-Folder-clause-found : goal.returns-in-Some-Folder-clause-found
returns-in-Some-Folder-clause-found g c = λ honest.
    sym (folder_standing _ _ c.in_ok-standing_at.field-0 c.in-Some-Folder.field-0 c.requires c.in-Some-Folder.is
    c.in-Some-Folder.field-0-is
    (c.in_ok-standing_at.ensures.found honest (base_reached _ _ c.requires)))

pub returns-in-None-clause-found : goal.returns-in-None-clause-found
returns-in-None-clause-found g c = λ honest. grind (arith, folder_of_disk, base_reached)

pub returns-in-None-2-clause-found : goal.returns-in-None-2-clause-found
returns-in-None-2-clause-found g c = λ honest. grind (arith, folder_of_disk, base_reached)
