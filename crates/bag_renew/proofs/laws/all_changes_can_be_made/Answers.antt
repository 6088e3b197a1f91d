use Rattle.bag_renew.proofs.CanChange.{changes_can_be_made}
use Rattle.bag_renew.proofs.laws.all_changes_can_be_made.Goals as goal

pub returns : goal.returns
returns c = changes_can_be_made
