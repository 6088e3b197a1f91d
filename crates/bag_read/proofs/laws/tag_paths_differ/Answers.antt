use Rattle.bag_read.proofs.TagPaths.{paths_differ}
use Rattle.bag_read.proofs.laws.tag_paths_differ.Goals as goal

pub returns : goal.returns
returns c = paths_differ
