use Rattle.bag_renew.proofs.Common.{All, ap, begun_file, sym, subst}
use Rattle.std.proofs.lemmas.Result.{err_from_is_err_and}
use Rattle.bag_renew.proofs.WholeRenewal.{one_result, refused_before}
use Rattle.bag_changes.specs.Openings.{OpensBefore}
use Rattle.bag_tree.specs.ChangeFiles.{IsOfFile}
use Rattle.bag_changes.specs.Reading.{MayRefuseReading}
use Rattle.bag_renew.specs.Renew.{HasPlanned}
use Rattle.bag_renew.proofs.renewing.renew.Goals as goal

pub returns-in_err-changes : goal.returns-in_err-changes
returns-in_err-changes g c =
    let told = err_from_is_err_and c.from_residual.result c.from_residual.ensures.1 in
    let old = g.T.Tree.state c.args.tree.now in
    let new = g.T.Tree.state c.plan_renewal.new.tree in
    rw told.1
    (refused_before c.args.renewal.now old new told.0 c.in_err-changes.ensures.keeps
    (λ bad. ap g.T.Tree.state (c.in_err-changes.ensures.untouched bad))
    (subst (MayRefuseReading c.args.renewal.now old new) (sym told.2) c.in_err-changes.ensures.refused)
    c.in_err-changes.ensures.opens
    (subst (OpensBefore old new) (sym told.2) c.in_err-changes.ensures.opens_before))

pub put_changes-requires : goal.put_changes-requires
put_changes-requires g c =
    subst (All (IsOfFile begun_file)) (sym c.into_vec.ensures) c.in_ok-changes.ensures.planned.of_files

pub returns : goal.returns
returns g c =
    let old = g.T.Tree.state c.args.tree.now in
    let read = g.T.Tree.state c.plan_renewal.new.tree in
    one_result c.args.renewal.now old read (g.T.Tree.state c.put_changes.new.tree) c.into_vec.result.items
    (subst (HasPlanned c.args.renewal.now old read) (sym c.into_vec.ensures) c.in_ok-changes.ensures.planned)
    c.in_ok-changes.ensures.opens
    c.put_changes.result c.put_changes.ensures.changed c.put_changes.ensures.stopped c.put_changes.ensures.any_moment
    c.put_changes.ensures.lasting
