use Rattle.bag_renew.proofs.ElementLaws.{oxum_is_there_once}
use Rattle.bag_renew.proofs.ElementPlaces.{new_oxum_is_last, oxum_stands_in_place}
use Rattle.bag_renew.proofs.laws.payload_oxum_is_there_once.Goals as goal

pub returns-clause-once : goal.returns-clause-once
returns-clause-once c = oxum_is_there_once

pub returns-clause-in_place : goal.returns-clause-in_place
returns-clause-in_place c = oxum_stands_in_place

pub returns-clause-last : goal.returns-clause-last
returns-clause-last c = new_oxum_is_last
