use Rattle.bag_stages.proofs.Common.{arith, take_rest}
use Rattle.bag_stages.proofs.FirstPassing.{none_passes, first_passes}
use Rattle.bag_stages.proofs.oxum_faults.oxum_faults.Goals as goal

pub returns-in_default : goal.returns-in_default
returns-in_default c = grind (arith, none_passes)

pub returns : goal.returns
returns c = grind (arith, first_passes, take_rest)
