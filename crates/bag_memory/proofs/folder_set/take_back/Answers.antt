use Rattle.bag_memory.proofs.Common.{arith}
use Rattle.bag_memory.proofs.Folders.{one_taken}
use Rattle.bag_memory.proofs.folder_set.take_back.Goals as goal

pub returns-in-Some : goal.returns-in-Some
returns-in-Some c = grind (arith, one_taken)
