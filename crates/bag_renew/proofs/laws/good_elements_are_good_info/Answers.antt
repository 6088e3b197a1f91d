use Rattle.bag_renew.proofs.GoodInfo.{good_elements_are_good_info}
use Rattle.bag_renew.proofs.laws.good_elements_are_good_info.Goals as goal

pub returns : goal.returns
returns c = good_elements_are_good_info
