use Rattle.bag_faults.proofs.Ordered.{equal_faults_are_one}
use Rattle.bag_faults.proofs.laws.equal_faults_are_one.Goals as goal

pub returns : goal.returns
returns c = equal_faults_are_one
