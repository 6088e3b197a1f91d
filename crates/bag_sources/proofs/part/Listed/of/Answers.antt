use Rattle.bag_sources.proofs.Common.{arith, common_steps}
use Rattle.bag_sources.proofs.part.Listed.of.Goals as goal

pub loop-file-preserved : goal.loop-file-preserved
loop-file-preserved c = grind (arith, common_steps)

pub returns : goal.returns
returns c = grind (arith, common_steps)
