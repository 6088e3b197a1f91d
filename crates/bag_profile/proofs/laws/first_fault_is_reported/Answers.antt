use Rattle.bag_profile.proofs.Shapes.{first_fault_is_reported}
use Rattle.bag_profile.proofs.laws.first_fault_is_reported.Goals as goal

pub returns : goal.returns
returns c = first_fault_is_reported
