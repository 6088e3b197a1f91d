use Rattle.bag_renew.proofs.OnTheWay.{each_cut_is_valid}
use Rattle.bag_renew.proofs.laws.each_cut_bag_is_valid.Goals as goal

pub returns : goal.returns
returns c = each_cut_is_valid
