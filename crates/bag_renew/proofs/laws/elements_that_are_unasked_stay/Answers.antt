use Rattle.bag_renew.proofs.ElementLaws.{unasked_stay}
use Rattle.bag_renew.proofs.laws.elements_that_are_unasked_stay.Goals as goal

pub returns : goal.returns
returns c = unasked_stay
