use Rattle.bag_store.proofs.BagSteps.{free_not_taken, none_standing, seen_taken}
use Rattle.bag_store.proofs.BaseNames.{base_reached}
use Rattle.bag_store.proofs.Common.{HasSpecial, IsReachedByFolders, IsTrue, due_for_special, err_from_is_err_and}
use Rattle.bag_store.proofs.standing.check_taken.Goals as goal

pub returns-in-None-clause-refused : goal.returns-in-None-clause-refused
returns-in-None-clause-refused g c = λ honest.
    free_not_taken _ _ c.requires
    (none_standing _ _ c.in_ok-standing_at.field-0 c.in-None.is
    (c.in_ok-standing_at.ensures.found honest (base_reached _ _ c.requires)))

pub returns-in-Some-clause-taken : goal.returns-in-Some-clause-taken
returns-in-Some-clause-taken g c =
    seen_taken (g.D.Disk.state c.args.disk.now) c.args.name.now c.in_ok-standing_at.field-0 c.in-Some.field-0
    c.requires c.in-Some.is c.in_ok-standing_at.ensures.found

pub returns-in_err-standing_at-clause-refused : goal.returns-in_err-standing_at-clause-refused
returns-in_err-standing_at-clause-refused g c =
    let p = err_from_is_err_and c.from_residual.result c.from_residual.ensures.1 in
    let old = g.D.Disk.state c.args.disk.now in
    rw (p.1, p.2)
    (due_for_special (IsTrue old.honest → IsReachedByFolders old.nodes c.args.name.now → HasSpecial old.nodes) _ _ _ _ _
    (λ special honest. special honest (base_reached _ _ c.requires))
    c.in_err-standing_at.ensures.refused)
