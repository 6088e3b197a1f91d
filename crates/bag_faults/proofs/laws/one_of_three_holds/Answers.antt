use Rattle.bag_faults.proofs.Ascending.{one_of_three}
use Rattle.bag_faults.proofs.Ordered.{fault_cmp_total, fault_cmp_same}
use Rattle.bag_faults.proofs.laws.one_of_three_holds.Goals as goal

pub returns : goal.returns
returns c = one_of_three fault_cmp_total fault_cmp_same
