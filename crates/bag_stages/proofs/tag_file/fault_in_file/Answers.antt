use Rattle.bag_stages.proofs.Common.{arith, common_steps}
use Rattle.bag_stages.proofs.tag_file.fault_in_file.Goals as goal

pub returns : goal.returns
returns c = grind (arith, common_steps)
