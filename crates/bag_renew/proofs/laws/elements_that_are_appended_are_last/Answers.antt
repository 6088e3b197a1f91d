use Rattle.bag_renew.proofs.ElementPlaces.{appended_are_last}
use Rattle.bag_renew.proofs.laws.elements_that_are_appended_are_last.Goals as goal

pub returns : goal.returns
returns c = appended_are_last
