use Rattle.bag_disk.proofs.Moving.{nodes_move}
use Rattle.bag_disk.proofs.laws.moved_is_there.Goals as goal

pub returns : goal.returns
returns c = nodes_move
