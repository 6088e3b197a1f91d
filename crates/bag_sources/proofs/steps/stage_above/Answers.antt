use Rattle.bag_sources.proofs.Common.{subst, sym, option_copied, Check, IsStageAbove}
use Rattle.bag_faults.specs.Stage.{stage_number}
use Rattle.bag_sources.proofs.Stages.{stage_ahead}
use Rattle.bag_sources.proofs.steps.stage_above.Goals as goal

pub returns-clause-faults : goal.returns-clause-faults
returns-clause-faults c = λ bag facts.
    let after = option_copied c.args.after in
    let check : Check =
    record { bag = bag; profile = option_copied c.args.profile; options = c.args.facts.now.options } in
    subst (IsStageAbove check (stage_number c.args.stage) after) (sym c.above.ensures)
    (stage_ahead check after (stage_number c.args.stage) _ (c.in_ok-faults_of_stage.ensures.faults bag facts c.requires))
