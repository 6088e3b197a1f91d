use Rattle.bag_memory.proofs.Common.{arith}
use Rattle.bag_memory.proofs.Passing.{begun_above}
use Rattle.bag_memory.proofs.fail_tree.FailTreeWriteTree.create.Goals as goal

pub returns-clause-begun : goal.returns-clause-begun
returns-clause-begun g c = grind (arith, begun_above)
