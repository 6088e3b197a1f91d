use Rattle.bag_renew.proofs.RenewedNames.{renewed_names}
use Rattle.bag_renew.proofs.laws.a_renewed_bag_names_its_files.Goals as goal

pub returns : goal.returns
returns c = renewed_names
