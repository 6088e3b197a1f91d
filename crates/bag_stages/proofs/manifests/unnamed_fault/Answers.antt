use Rattle.bag_stages.proofs.Common.{arith, common_steps}
use Rattle.bag_stages.proofs.manifests.unnamed_fault.Goals as goal

pub returns-then-is_none : goal.returns-then-is_none
returns-then-is_none c = grind (arith, common_steps)

pub returns : goal.returns
returns c = grind (arith, common_steps)
