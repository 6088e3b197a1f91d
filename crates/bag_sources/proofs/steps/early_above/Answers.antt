use Rattle.bag_sources.proofs.Common.{◌≡◌, ◌+◌, subst, arith, option_copied, AreAheadBefore, IsStageAbove}
use Rattle.bag_report.specs.Report.{check_with}
use Rattle.bag_faults.proofs.BeforeDigests.{number_at}
use Rattle.bag_sources.proofs.Stages.{none_before, one_stage_more}
use Rattle.bag_sources.proofs.steps.early_above.Goals as goal

pub loop-stage-init : goal.loop-stage-init
loop-stage-init c = λ bag facts.
    rw c.new-faults.ensures.items
    (none_before (check_with bag (option_copied c.args.profile) c.args.facts.now.options)
    (option_copied c.args.after))

pub loop-stage-preserved : goal.loop-stage-preserved
loop-stage-preserved c = λ bag facts.
    let after = option_copied c.args.after in
    let check = check_with bag (option_copied c.args.profile) c.args.facts.now.options in
    let i = c.loop-stage.stage-index in
    rw c.in_ok-append.ensures.items
    (one_stage_more check after (i + 1) _ _ (c.loop-stage.invariant bag facts)
    (subst (λ k. IsStageAbove check k after c.in_ok-of_stage.of_stage.items)
    (number_at i (omega (arith, c.loop-stage-test.true)))
    (c.in_ok-of_stage.ensures.faults bag facts)))

pub returns : goal.returns
returns c = λ bag facts.
    let past : c.loop-stage.stage-index + 1 ≡ 7 =
    omega (arith, c.loop-stage-test.false, c.loop-stage.auto.stage-index-end) in
    subst (λ k. AreAheadBefore (check_with bag (option_copied c.args.profile) c.args.facts.now.options) k
    (option_copied c.args.after) c.loop-stage.faults.items) past
    (c.loop-stage.invariant bag facts)
