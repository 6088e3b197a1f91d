use Rattle.bag_renew.proofs.ElementLaws.{unset_are_gone}
use Rattle.bag_renew.proofs.laws.elements_that_are_unset_are_gone.Goals as goal

pub returns : goal.returns
returns c = unset_are_gone
