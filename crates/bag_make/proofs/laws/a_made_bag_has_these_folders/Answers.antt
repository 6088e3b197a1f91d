use Rattle.bag_make.proofs.ContentsOfMade.{these_folders}
use Rattle.bag_make.proofs.laws.a_made_bag_has_these_folders.Goals as goal

pub returns : goal.returns
returns c = these_folders
