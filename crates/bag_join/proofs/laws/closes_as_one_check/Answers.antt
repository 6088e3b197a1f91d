use Rattle.bag_join.proofs.LawsHold.{closes_as_one_check}
use Rattle.bag_join.proofs.laws.closes_as_one_check.Goals as goal

pub returns : goal.returns
returns c = closes_as_one_check
