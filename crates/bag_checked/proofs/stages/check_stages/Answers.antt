use Rattle.bag_checked.proofs.Common.{◌≡◌, ◌+◌, ap, arith, subst}
use Rattle.bag_faults.proofs.BeforeDigests.{number_at}
use Rattle.bag_faults.proofs.PassedOn.{passed_on}
use Rattle.bag_faults.specs.Stage.{stage_number}
use Rattle.bag_checked.proofs.FirstFaults.{before_first, found_first, one_more}
use Rattle.bag_checked.specs.FirstFaults.{HasNoneAt, HasNoneBefore, IsFoundAt, IsFoundFirst}
use Rattle.bag_checked.proofs.stages.check_stages.Goals as goal

pub loop-stage-init : goal.loop-stage-init
loop-stage-init c = before_first c.args.facts.now

pub loop-stage-preserved : goal.loop-stage-preserved
loop-stage-preserved c =
    let i = c.loop-stage.stage-index in
    let number = number_at i (omega (arith, c.loop-stage-test.true)) in
    one_more c.args.facts.now (i + 1) c.loop-stage.invariant
    (subst (HasNoneAt c.args.facts.now) number
    (c.in_ok-check_stage.ensures.none (λ e. omega (arith, ap stage_number e, number, c.loop-stage-test.true))))

pub returns-in_err-check_stage-clause-fault : goal.returns-in_err-check_stage-clause-fault
returns-in_err-check_stage-clause-fault c =
    let unchecked = c.in_err-check_stage.field-0.0 in
    let i = c.loop-stage.stage-index in
    let number = number_at i (omega (arith, c.loop-stage-test.true)) in
    passed_on c.from_residual.result unchecked (IsFoundFirst c.args.facts.now) c.from_residual.ensures.1
    (found_first c.args.facts.now (i + 1) (omega (arith, c.loop-stage-test.true)) unchecked c.loop-stage.invariant
    (subst (λ k. IsFoundAt c.args.facts.now k unchecked) number
    (c.in_err-check_stage.ensures.fault (λ e. omega (arith, ap stage_number e, number, c.loop-stage-test.true)))))

pub returns-clause-none : goal.returns-clause-none
returns-clause-none c =
    let past : c.loop-stage.stage-index + 1 ≡ 7 =
    omega (arith, c.loop-stage-test.false, c.loop-stage.auto.stage-index-end) in
    subst (HasNoneBefore c.args.facts.now) past c.loop-stage.invariant
