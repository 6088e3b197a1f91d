use Rattle.std.proofs.Common.{sym, subst}
use Rattle.bag_disk.specs.DiskNodes.{empty_disk, IsDisk}
use Rattle.test_nodes.specs.Held.{nodes_of}
use Rattle.test_disk.proofs.memory_disk.MemoryDisk.empty.Goals as goal

pub with_nodes-requires : goal.with_nodes-requires
with_nodes-requires c = subst (λ held. IsDisk (nodes_of held)) (sym c.new.ensures.empty) empty_disk
