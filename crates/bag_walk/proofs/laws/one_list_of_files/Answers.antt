use Rattle.bag_walk.proofs.OneList.{one_list_of_files}
use Rattle.bag_walk.proofs.laws.one_list_of_files.Goals as goal

pub returns : goal.returns
returns c = one_list_of_files
