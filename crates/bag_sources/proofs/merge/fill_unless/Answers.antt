use Rattle.bag_sources.proofs.Common.{arith}
use Rattle.bag_sources.proofs.Merging.{quiet_fill}
use Rattle.bag_sources.proofs.merge.fill_unless.Goals as goal

pub returns-clause-quiet : goal.returns-clause-quiet
returns-clause-quiet g c = grind (arith, quiet_fill)
