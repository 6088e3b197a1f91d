use Rattle.bag_renew.proofs.Valid.{renewed_has_old_faults}
use Rattle.bag_renew.proofs.laws.a_renewed_bag_has_old_faults.Goals as goal

pub returns : goal.returns
returns c = renewed_has_old_faults
