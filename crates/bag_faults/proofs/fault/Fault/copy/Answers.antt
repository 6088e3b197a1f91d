use Rattle.bag_faults.proofs.Common.{arith, common_steps}
use Rattle.bag_faults.proofs.fault.Fault.copy.Goals as goal

pub returns : goal.returns
returns c = grind (arith, common_steps)
