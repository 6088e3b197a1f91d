use Rattle.bag_sources.proofs.Common.{arith, err_from_is_err_and}
use Rattle.bag_sources.proofs.steps.Steps.step.Goals as goal

pub returns-clause-none_early : goal.returns-clause-none_early
returns-clause-none_early g c = λ bag h sees.
    let left = c.leave.ensures.left bag h in
    rw (c.leave.ensures.tree, left.1) at
    (c.fill.ensures.none_early g.met.S.InOrder.is_in_order bag left.0
    (rw (c.leave.ensures.tree, c.leave.ensures.todo) sees))

pub returns-in_err-fill-clause-none_early : goal.returns-in_err-fill-clause-none_early
returns-in_err-fill-clause-none_early g c = λ bag h sees.
    let left = c.leave.ensures.left bag h in
    rw (c.leave.ensures.tree, left.1) at
    (c.fill.ensures.none_early g.met.S.InOrder.is_in_order bag left.0
    (rw (c.leave.ensures.tree, c.leave.ensures.todo) sees))

pub returns-clause-opens : goal.returns-clause-opens
returns-clause-opens g c = grind arith

pub returns-in_err-fill-clause-again : goal.returns-in_err-fill-clause-again
returns-in_err-fill-clause-again g c =
    let p = err_from_is_err_and c.from_residual.result c.from_residual.ensures.1 in
    rw p.1 (rw (c.leave.ensures.tree, c.leave.ensures.todo) at
    (c.in_err-fill.ensures.again g.met.S.InOrder.is_in_order))

pub returns-in_err-fill-clause-reached : goal.returns-in_err-fill-clause-reached
returns-in_err-fill-clause-reached g c =
    let p = err_from_is_err_and c.from_residual.result c.from_residual.ensures.1 in
    rw (p.1, p.2) (rw (c.leave.ensures.tree, c.leave.ensures.todo) at
    (c.in_err-fill.ensures.reached g.met.S.InOrder.is_in_order))

pub returns-in_err-fill-clause-waits : goal.returns-in_err-fill-clause-waits
returns-in_err-fill-clause-waits g c =
    let p = err_from_is_err_and c.from_residual.result c.from_residual.ensures.1 in
    rw (p.1, p.2) (λ bag h sees.
    let left = c.leave.ensures.left bag h in
    rw left.1 at (c.in_err-fill.ensures.waits g.met.S.InOrder.is_in_order bag left.0
    (rw (c.leave.ensures.tree, c.leave.ensures.todo) sees)))

pub returns-clause-no_failure : goal.returns-clause-no_failure
returns-clause-no_failure g c = rw c.leave.ensures.tree at c.in_ok-fill.ensures.no_failure
