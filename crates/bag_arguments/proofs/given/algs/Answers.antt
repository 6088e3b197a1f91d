use Rattle.bag_arguments.proofs.Common.{arith}
use Rattle.bag_arguments.proofs.Reading.{or_default_kept}
use Rattle.bag_arguments.proofs.given.algs.Goals as goal

pub returns-else-is_empty : goal.returns-else-is_empty
returns-else-is_empty c = grind (arith, or_default_kept)
