use Rattle.bag_renew.proofs.OnTheWay.{each_is_valid}
use Rattle.bag_renew.proofs.laws.each_bag_on_the_way_is_valid.Goals as goal

pub returns : goal.returns
returns c = each_is_valid
