use Rattle.bag_sources.proofs.Common.{IfOk-weaker, ◌∙◌, sym, option_copied, Check}
use Rattle.bag_sources.proofs.Within.{late_kept, late_left}
use Rattle.bag_sources.proofs.steps.late_within.Goals as goal

pub returns-then-has_late : goal.returns-then-has_late
returns-then-has_late c =
    IfOk-weaker c.stage_above.result _ _ (λ faults is bag facts.
    let check : Check =
    record { bag = bag; profile = option_copied c.args.profile; options = c.args.facts.now.options } in
    late_kept c.args.bounds.now check (option_copied c.args.after) (sym c.has_late.ensures ∙ c.if-has_late.true)
    faults.items (is bag facts)) c.stage_above.ensures.faults

pub returns : goal.returns
returns c = λ bag facts.
    let check : Check =
    record { bag = bag; profile = option_copied c.args.profile; options = c.args.facts.now.options } in
    rw c.new.ensures.items
    (late_left c.args.bounds.now check (option_copied c.args.after) (sym c.has_late.ensures ∙ c.if-has_late.false))
