use Rattle.bag_store.proofs.BagSteps.{folder_is_no_file, none_is_no_file}
use Rattle.bag_store.proofs.BaseNames.{base_reached}
use Rattle.bag_store.proofs.Common.{HasSpecial, IsReachedByFolders, IsTrue, arith, err_from_is_err_and, special_in_step}
use Rattle.bag_store.proofs.standing.check_is_file.Goals as goal

pub returns-in_err-standing_at-clause-refused : goal.returns-in_err-standing_at-clause-refused
returns-in_err-standing_at-clause-refused g c =
    let p = err_from_is_err_and c.from_residual.result c.from_residual.ensures.1 in
    let old = g.D.Disk.state c.args.disk.now in
    rw (p.1, p.2)
    (special_in_step (IsTrue old.honest → IsReachedByFolders old.nodes c.args.name.now → HasSpecial old.nodes) _ _ _ _
    (λ special honest. special honest (base_reached _ _ c.requires))
    c.in_err-standing_at.ensures.refused)

pub returns-in-Some-File-clause-file : goal.returns-in-Some-File-clause-file
returns-in-Some-File-clause-file g c = λ honest. grind (arith, base_reached)

pub returns-in-None-clause-refused : goal.returns-in-None-clause-refused
returns-in-None-clause-refused g c = λ honest. grind (arith, folder_is_no_file, base_reached)

pub returns-in-None-2-clause-refused : goal.returns-in-None-2-clause-refused
returns-in-None-2-clause-refused g c = λ honest. grind (arith, none_is_no_file, base_reached)
