use Rattle.bag_renew.proofs.ChangesRenew.{changes_renew}
use Rattle.bag_renew.proofs.laws.all_changes_renew_the_bag.Goals as goal

pub returns : goal.returns
returns c = changes_renew
