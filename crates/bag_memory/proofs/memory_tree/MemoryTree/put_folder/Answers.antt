use Rattle.bag_memory.proofs.Common.{arith}
use Rattle.bag_memory.proofs.InMemory.{folder_put_passes, text_name_of}
use Rattle.bag_memory.proofs.memory_tree.MemoryTree.put_folder.Goals as goal

pub invariant_of-self : goal.invariant_of-self
invariant_of-self c = grind (arith, text_name_of, folder_put_passes)
