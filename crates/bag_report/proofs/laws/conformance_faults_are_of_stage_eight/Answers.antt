use Rattle.bag_report.proofs.ConformanceFaultsLaws.{conformance_faults_are_of_stage_eight}
use Rattle.bag_report.proofs.laws.conformance_faults_are_of_stage_eight.Goals as goal

pub returns : goal.returns
returns c = conformance_faults_are_of_stage_eight
