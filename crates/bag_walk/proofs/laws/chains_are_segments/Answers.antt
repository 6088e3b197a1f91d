use Rattle.bag_walk.proofs.SegmentSteps.{chains_are_segments}
use Rattle.bag_walk.proofs.laws.chains_are_segments.Goals as goal

pub returns : goal.returns
returns c = chains_are_segments
