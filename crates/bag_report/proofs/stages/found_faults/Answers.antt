use Rattle.bag_report.proofs.Common.{ap, arith, option_copied}
use Rattle.std.proofs.lemmas.Result.{IfOk-weaker}
use Rattle.bag_faults.specs.Stage.{stage_number}
use Rattle.bag_report.proofs.Found.{stage_found, stage_six}
use Rattle.bag_report.proofs.stages.found_faults.Goals as goal

pub returns-in-Declaration-clause-faults : goal.returns-in-Declaration-clause-faults
returns-in-Declaration-clause-faults c = IfOk-weaker c.declaration_faults.result _ _
    (λ found list bag facts other read.
    rw c.in-Declaration.is (stage_found c.args.facts.now.options.clashes bag (option_copied c.args.profile) found.items 1
    (λ e. omega (arith, e)) (list bag facts)))
    c.declaration_faults.ensures

pub returns-in-Parts-clause-faults : goal.returns-in-Parts-clause-faults
returns-in-Parts-clause-faults c = IfOk-weaker c.parts_faults.result _ _
    (λ found list bag facts other read.
    rw c.in-Parts.is (stage_found c.args.facts.now.options.clashes bag (option_copied c.args.profile) found.items 2
    (λ e. omega (arith, e)) (list bag facts (read (omega (arith, ap stage_number c.in-Parts.is))))))
    c.parts_faults.ensures

pub returns-in-Metadata-clause-faults : goal.returns-in-Metadata-clause-faults
returns-in-Metadata-clause-faults c = IfOk-weaker c.metadata_faults.result _ _
    (λ found list bag facts other read.
    rw c.in-Metadata.is (stage_found c.args.facts.now.options.clashes bag (option_copied c.args.profile) found.items 3
    (λ e. omega (arith, e)) (list bag facts (read (omega (arith, ap stage_number c.in-Metadata.is))))))
    c.metadata_faults.ensures

pub returns-in-Fetch-clause-faults : goal.returns-in-Fetch-clause-faults
returns-in-Fetch-clause-faults c = IfOk-weaker c.fetch_faults.result _ _
    (λ found list bag facts other read.
    rw c.in-Fetch.is (stage_found c.args.facts.now.options.clashes bag (option_copied c.args.profile) found.items 4
    (λ e. omega (arith, e)) (list bag facts (read (omega (arith, ap stage_number c.in-Fetch.is))))))
    c.fetch_faults.ensures

pub returns-in-Manifests-clause-faults : goal.returns-in-Manifests-clause-faults
returns-in-Manifests-clause-faults c = IfOk-weaker c.manifest_faults.result _ _
    (λ found list bag facts other read.
    rw c.in-Manifests.is (stage_found c.args.facts.now.options.clashes bag (option_copied c.args.profile) found.items 5
    (λ e. omega (arith, e)) (list bag facts (read (omega (arith, ap stage_number c.in-Manifests.is))))))
    c.manifest_faults.ensures

pub returns-in-Completeness-clause-faults : goal.returns-in-Completeness-clause-faults
returns-in-Completeness-clause-faults c = IfOk-weaker c.completeness_faults.result _ _
    (λ found list bag facts other read.
    rw c.in-Completeness.is (stage_six c.args.facts.now.options.clashes bag (option_copied c.args.profile) found.items
    (list bag facts (read (omega (arith, ap stage_number c.in-Completeness.is))))))
    c.completeness_faults.ensures

pub returns-in-Conformance-clause-faults : goal.returns-in-Conformance-clause-faults
returns-in-Conformance-clause-faults c = IfOk-weaker c.profile_faults.result _ _
    (λ found list bag facts other read.
    rw c.in-Conformance.is (stage_found c.args.facts.now.options.clashes bag (option_copied c.args.profile) found.items 8
    (λ e. omega (arith, e)) (list bag facts (read (omega (arith, ap stage_number c.in-Conformance.is))))))
    c.profile_faults.ensures
