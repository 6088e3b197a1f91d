use Rattle.bag_walk.proofs.PartLines.{one_list_is_told}
use Rattle.bag_walk.proofs.laws.one_list_is_told.Goals as goal

pub returns : goal.returns
returns c = one_list_is_told
