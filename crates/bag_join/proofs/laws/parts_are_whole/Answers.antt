use Rattle.bag_join.proofs.PartsOfBag.{parts_are_whole}
use Rattle.bag_join.proofs.laws.parts_are_whole.Goals as goal

pub returns : goal.returns
returns c = parts_are_whole
