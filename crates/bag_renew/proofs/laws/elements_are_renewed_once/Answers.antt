use Rattle.bag_renew.proofs.ElementsAgain.{renewed_once_only}
use Rattle.bag_renew.proofs.laws.elements_are_renewed_once.Goals as goal

pub returns : goal.returns
returns c = renewed_once_only
