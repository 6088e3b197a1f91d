use Rattle.bag_memory.proofs.Common.{arith}
use Rattle.bag_memory.proofs.MovedFiles.{files_are}
use Rattle.bag_memory.proofs.moved.moved.Goals as goal

pub returns : goal.returns
returns c = grind (arith, files_are)
