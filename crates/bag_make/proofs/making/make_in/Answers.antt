use Rattle.bag_make.proofs.Common.{subst, sym}
use Rattle.std.proofs.lemmas.Result.{err_from_is_err_and}
use Rattle.bag_make.proofs.WholeMaking.{all_taken, reading_refused, request_refused, step_refused}
use Rattle.bag_make.specs.Reads.{MayRefuseReading}
use Rattle.bag_make.specs.Request.{IsRequestFault}
use Rattle.bag_make.proofs.making.make_in.Goals as goal

pub returns-in_err-check_request-clause-makes : goal.returns-in_err-check_request-clause-makes
returns-in_err-check_request-clause-makes g c =
    let p = err_from_is_err_and c.from_residual.result c.from_residual.ensures.1 in
    rw p.1
    (request_refused c.args.algs c.args.info.now (g.T.Tree.state c.args.tree.now)
    (g.met.T.Tree.is_bag c.args.tree.now) p.0
    (subst (IsRequestFault c.args.algs c.args.info.now) (sym p.2) c.in_err-check_request.ensures.refused))

pub returns-in_err-steps-clause-makes : goal.returns-in_err-steps-clause-makes
returns-in_err-steps-clause-makes g c =
    let p = err_from_is_err_and c.from_residual-in_err-steps.result c.from_residual-in_err-steps.ensures.1 in
    let old = g.T.Tree.state c.args.tree.now in
    let mid = g.T.Tree.state c.read_and_plan.new.tree in
    let read = c.in_err-steps.ensures in
    rw p.1
    (reading_refused c.args.algs c.args.info.now old (g.met.T.Tree.is_bag c.args.tree.now) mid
    c.in_ok-check_request.ensures.good read.keeps read.opens p.0 (subst (MayRefuseReading old mid) (sym p.2) read.refused))

pub returns-in_err-take_steps-clause-makes : goal.returns-in_err-take_steps-clause-makes
returns-in_err-take_steps-clause-makes g c =
    let p = err_from_is_err_and c.from_residual-in_err-take_steps.result c.from_residual-in_err-take_steps.ensures.1 in
    let read = c.in_ok-steps.ensures in
    rw (p.1, p.2)
    (step_refused c.args.algs c.args.info.now _ (g.met.T.Tree.is_bag c.args.tree.now) _
    c.in_ok-check_request.ensures.good read.keeps read.opens _ c.in_ok-steps.steps.items read.planned read.no_failure
    read.opened _ (rw c.deref.ensures.value at c.in_err-take_steps.ensures.stopped))

pub returns-clause-makes : goal.returns-clause-makes
returns-clause-makes g c =
    let read = c.in_ok-steps.ensures in
    all_taken c.args.algs c.args.info.now _ (g.met.T.Tree.is_bag c.args.tree.now) _
    c.in_ok-check_request.ensures.good read.keeps read.opens _ c.in_ok-steps.steps.items read.planned read.no_failure
    read.opened _ (rw c.deref.ensures.value at c.in_ok-take_steps.ensures.taken) c.in_ok-check_request.ensures.texts
    read.ascend read.plain
