use Rattle.bag_stages.proofs.Common.{arith, common_steps}
use Rattle.bag_stages.proofs.oxum_faults.is_oxum.Goals as goal

pub returns : goal.returns
returns c = grind (arith, common_steps)
