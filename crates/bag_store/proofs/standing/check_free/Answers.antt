use Rattle.bag_store.proofs.BagSteps.{seen_taken}
use Rattle.bag_store.proofs.BaseNames.{base_reached}
use Rattle.bag_store.proofs.Common.{HasSpecial, IsReachedByFolders, IsTrue, err_from_is_err_and, special_in_step}
use Rattle.bag_store.proofs.standing.check_free.Goals as goal

pub returns-in-Some-clause-refused : goal.returns-in-Some-clause-refused
returns-in-Some-clause-refused g c =
    seen_taken (g.D.Disk.state c.args.disk.now) c.args.name.now c.in_ok-standing_at.field-0 c.in-Some.field-0
    c.requires c.in-Some.is c.in_ok-standing_at.ensures.found

pub returns-in_err-standing_at-clause-refused : goal.returns-in_err-standing_at-clause-refused
returns-in_err-standing_at-clause-refused g c =
    let p = err_from_is_err_and c.from_residual.result c.from_residual.ensures.1 in
    let old = g.D.Disk.state c.args.disk.now in
    rw (p.1, p.2)
    (special_in_step (IsTrue old.honest → IsReachedByFolders old.nodes c.args.name.now → HasSpecial old.nodes) _ _ _ _
    (λ special honest. special honest (base_reached _ _ c.requires))
    c.in_err-standing_at.ensures.refused)
