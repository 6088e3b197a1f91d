use Rattle.bag_renew.proofs.RenewedAgain.{renewing_again}
use Rattle.bag_renew.proofs.laws.renewing_again_makes_the_same.Goals as goal

pub returns : goal.returns
returns c = renewing_again
