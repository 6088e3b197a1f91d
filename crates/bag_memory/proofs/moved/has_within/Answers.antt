use Rattle.bag_memory.proofs.Common.{arith}
use Rattle.bag_memory.proofs.MovedFiles.{files_are}
use Rattle.bag_memory.proofs.moved.has_within.Goals as goal

pub returns-then-is_some : goal.returns-then-is_some
returns-then-is_some c = grind (arith, files_are)

pub returns : goal.returns
returns c = grind (arith, files_are)
