use Rattle.bag_walk.proofs.ComparedFiles.{each_bag_has_compared_files}
use Rattle.bag_walk.proofs.laws.each_bag_has_compared_files.Goals as goal

pub returns : goal.returns
returns c = each_bag_has_compared_files
