use Rattle.bag_renew.proofs.OnTheWay.{each_has_old_faults}
use Rattle.bag_renew.proofs.laws.each_bag_on_the_way_has_old_faults.Goals as goal

pub returns : goal.returns
returns c = each_has_old_faults
