use Rattle.bag_renew.proofs.ElementLaws.{set_are_there}
use Rattle.bag_renew.proofs.ElementPlaces.{new_stand_before_oxum, set_stand_in_place}
use Rattle.bag_renew.proofs.laws.elements_that_are_set_are_there.Goals as goal

pub returns-clause-there : goal.returns-clause-there
returns-clause-there c = set_are_there

pub returns-clause-in_place : goal.returns-clause-in_place
returns-clause-in_place c = set_stand_in_place

pub returns-clause-new : goal.returns-clause-new
returns-clause-new c = new_stand_before_oxum
