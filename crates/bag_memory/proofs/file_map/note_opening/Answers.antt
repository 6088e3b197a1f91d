use Rattle.bag_memory.proofs.Common.{arith}
use Rattle.bag_memory.proofs.MemoryFiles.{file_at, none_from, some_from}
use Rattle.bag_memory.proofs.file_map.note_opening.Goals as goal

pub returns-then-not-contains_key-clause-fault : goal.returns-then-not-contains_key-clause-fault
returns-then-not-contains_key-clause-fault c = grind (arith, none_from, file_at)

pub returns-clause-there : goal.returns-clause-there
returns-clause-there c = grind (arith, some_from, file_at)
