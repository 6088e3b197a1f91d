use Rattle.bag_text.proofs.Common.{arith, common_steps}
use Rattle.bag_text.proofs.blank.trim.Goals as goal

pub returns : goal.returns
returns c = grind (arith, common_steps)
