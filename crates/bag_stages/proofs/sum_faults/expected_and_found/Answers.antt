use Rattle.bag_stages.proofs.Common.{arith, common_steps}
use Rattle.bag_stages.proofs.sum_faults.expected_and_found.Goals as goal

pub returns : goal.returns
returns c = grind (arith, common_steps)
