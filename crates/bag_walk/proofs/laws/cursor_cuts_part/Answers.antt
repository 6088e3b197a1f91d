use Rattle.bag_walk.proofs.PartLines.{cursor_cuts_part}
use Rattle.bag_walk.proofs.laws.cursor_cuts_part.Goals as goal

pub returns : goal.returns
returns c = cursor_cuts_part
