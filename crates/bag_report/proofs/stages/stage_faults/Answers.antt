use Rattle.bag_report.proofs.Common.{[], refl, sym, option_copied, Check}
use Rattle.bag_faults.specs.declared.stage.Stage.TheVariants as of
use Rattle.bag_report.proofs.Asked.{asked_of_stage}
use Rattle.bag_report.proofs.Found.{no_stage}
use Rattle.bag_report.proofs.stages.stage_faults.Goals as goal

pub returns-in_default-clause-faults : goal.returns-in_default-clause-faults
returns-in_default-clause-faults c = λ bag facts other.
    let options = c.args.facts.now.options in
    let check : Check = record { bag = bag; profile = option_copied c.args.profile; options = options } in
    rw c.new.ensures.items
    (asked_of_stage check c.args.stage []
    (no_stage options.clashes bag (option_copied c.args.profile) [] c.args.stage
    (λ e. c.in_default.ensures of.Declaration (sym e)) (λ e. c.in_default.ensures of.Parts (sym e))
    (λ e. c.in_default.ensures of.Metadata (sym e)) (λ e. c.in_default.ensures of.Fetch (sym e))
    (λ e. c.in_default.ensures of.Manifests (sym e)) (λ e. c.in_default.ensures of.Completeness (sym e))
    (λ e. c.in_default.ensures of.Validity (sym e)) (λ e. c.in_default.ensures of.Conformance (sym e)) refl))
