use Rattle.bag_read.proofs.TagPaths.{in_base}
use Rattle.bag_read.proofs.laws.tag_files_stand_in_the_base.Goals as goal

pub returns : goal.returns
returns c = in_base
