use Rattle.bag_make.proofs.Remainder.{remainders}
use Rattle.bag_make.proofs.laws.a_remainder_lacks_no_payload.Goals as goal

pub returns : goal.returns
returns c = remainders
