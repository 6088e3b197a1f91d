use Rattle.bag_sources.proofs.Common.{IfOk-weaker, ◌∙◌, sym, option_copied, Check}
use Rattle.bag_sources.proofs.Within.{early_kept, early_left}
use Rattle.bag_sources.proofs.steps.early_within.Goals as goal

pub returns-then-has_early : goal.returns-then-has_early
returns-then-has_early c =
    IfOk-weaker c.early_above.result _ _ (λ faults is bag facts.
    let check : Check =
    record { bag = bag; profile = option_copied c.args.profile; options = c.args.facts.now.options } in
    early_kept c.args.bounds.now check (option_copied c.args.after) (sym c.has_early.ensures ∙ c.if-has_early.true)
    faults.items (is bag facts)) c.early_above.ensures

pub returns : goal.returns
returns c = λ bag facts.
    let check : Check =
    record { bag = bag; profile = option_copied c.args.profile; options = c.args.facts.now.options } in
    rw c.new.ensures.items
    (early_left c.args.bounds.now check (option_copied c.args.after) (sym c.has_early.ensures ∙ c.if-has_early.false))
