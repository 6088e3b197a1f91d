use Rattle.bag_make.proofs.Remainder.{new_bags}
use Rattle.bag_make.proofs.laws.a_new_bag_lacks_no_file.Goals as goal

pub returns : goal.returns
returns c = new_bags
