use Rattle.bag_walk.proofs.Balance.{parts_are_even}
use Rattle.bag_walk.proofs.laws.parts_are_even.Goals as goal

pub returns : goal.returns
returns c = parts_are_even
