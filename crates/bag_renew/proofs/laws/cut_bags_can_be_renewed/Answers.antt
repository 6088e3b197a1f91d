use Rattle.bag_renew.proofs.CutBags.{cut_bags_can_be_renewed}
use Rattle.bag_renew.proofs.laws.cut_bags_can_be_renewed.Goals as goal

pub returns : goal.returns
returns c = cut_bags_can_be_renewed
