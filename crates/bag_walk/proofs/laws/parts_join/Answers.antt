use Rattle.bag_sources.proofs.Parts.{parts_join}
use Rattle.bag_walk.proofs.laws.parts_join.Goals as goal

pub returns : goal.returns
returns c = parts_join
