use Rattle.bag_read.proofs.InfoPlaces.{one_place, one_element}
use Rattle.bag_read.proofs.InfoParts.{parts}
use Rattle.bag_read.proofs.laws.each_line_has_one_place.Goals as goal

pub returns : goal.returns
returns c = record { place = one_place; element = one_element; parts = parts }
