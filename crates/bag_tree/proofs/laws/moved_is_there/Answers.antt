use Rattle.bag_tree.proofs.Moving.{moves_all}
use Rattle.bag_tree.proofs.laws.moved_is_there.Goals as goal

pub returns : goal.returns
returns c = moves_all
