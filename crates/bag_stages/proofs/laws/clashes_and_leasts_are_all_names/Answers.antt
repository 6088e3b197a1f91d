use Rattle.bag_stages.proofs.ClashStage.{both_are_all}
use Rattle.bag_stages.proofs.laws.clashes_and_leasts_are_all_names.Goals as goal

pub returns : goal.returns
returns c = both_are_all
