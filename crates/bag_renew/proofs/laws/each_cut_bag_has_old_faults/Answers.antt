use Rattle.bag_renew.proofs.OnTheWay.{each_cut_has_old_faults}
use Rattle.bag_renew.proofs.laws.each_cut_bag_has_old_faults.Goals as goal

pub returns : goal.returns
returns c = each_cut_has_old_faults
