use Rattle.bag_walk.proofs.PartLines.{done_part_is_written}
use Rattle.bag_walk.proofs.laws.done_part_is_written.Goals as goal

pub returns : goal.returns
returns c = done_part_is_written
