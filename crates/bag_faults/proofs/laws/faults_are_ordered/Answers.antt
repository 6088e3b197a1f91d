use Rattle.bag_faults.proofs.Ordered.{fault_cmp_total, fault_cmp_same}
use Rattle.bag_faults.proofs.laws.faults_are_ordered.Goals as goal

pub returns : goal.returns
returns c = (fault_cmp_total, fault_cmp_same)
