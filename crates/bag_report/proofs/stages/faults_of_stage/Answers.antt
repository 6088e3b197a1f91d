use Rattle.bag_report.proofs.Common.{◌≡◌, ◌∙◌, sym, true, filter, rules, option_copied, reaches, asks, Check}
use Rattle.std.proofs.lemmas.Fn.{filter_same}
use Rattle.bag_faults.specs.Stage.{stage_number}
use Rattle.bag_report.proofs.Asked.{asked_of_stage, not_reached, reads_more}
use Rattle.bag_report.proofs.stages.faults_of_stage.Goals as goal

pub returns-then-not-has_stage-clause-faults : goal.returns-then-not-has_stage-clause-faults
returns-then-not-has_stage-clause-faults c = λ bag facts other.
    let check : Check =
    record { bag = bag; profile = option_copied c.args.profile; options = c.args.facts.now.options } in
    not_reached check (stage_number c.args.stage) _ (rw c.number.ensures at (sym c.has_stage.ensures ∙ c.if-not-has_stage.true)) c.new.ensures.items

pub returns-clause-faults : goal.returns-clause-faults
returns-clause-faults c = λ bag facts other.
    let options = c.args.facts.now.options in
    let check : Check = record { bag = bag; profile = option_copied c.args.profile; options = options } in
    let reach : reaches options.depth (stage_number c.args.stage) ≡ true =
    rw c.number.ensures at (sym c.has_stage.ensures ∙ c.if-not-has_stage.false) in
    let found = c.in_ok-faults.faults.items in
    let kept : c.retain.new.self.items ≡ filter (λ f. asks options f.code) found =
    filter_same _ (λ f. asks options f.code) _ (λ f b after call. search rules) _ _ c.retain.ensures.filtered in
    rw kept (asked_of_stage check (stage_number c.args.stage) found
    (c.in_ok-faults.ensures.faults bag facts other (reads_more options.depth (stage_number c.args.stage) reach)))
