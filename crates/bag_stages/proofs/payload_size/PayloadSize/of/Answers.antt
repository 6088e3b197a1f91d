use Rattle.bag_stages.proofs.Common.{arith, common_steps}
use Rattle.bag_stages.proofs.payload_size.PayloadSize.of.Goals as goal

pub loop-entry-preserved : goal.loop-entry-preserved
loop-entry-preserved c = grind (arith, common_steps)

pub returns : goal.returns
returns c = grind (arith, common_steps)
