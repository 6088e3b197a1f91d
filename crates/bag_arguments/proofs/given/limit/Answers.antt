use Rattle.bag_arguments.proofs.Common.{arith}
use Rattle.bag_arguments.proofs.Limits.{limit_read}
use Rattle.bag_arguments.proofs.given.limit.Goals as goal

pub returns : goal.returns
returns c = grind (arith, limit_read)
