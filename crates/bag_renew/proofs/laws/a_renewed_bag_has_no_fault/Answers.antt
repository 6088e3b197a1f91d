use Rattle.bag_renew.proofs.Valid.{renewed_is_valid}
use Rattle.bag_renew.proofs.laws.a_renewed_bag_has_no_fault.Goals as goal

pub returns : goal.returns
returns c = renewed_is_valid
