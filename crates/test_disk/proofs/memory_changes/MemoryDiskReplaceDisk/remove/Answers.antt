use Rattle.test_nodes.specs.Held.{nodes_of}
use Rattle.test_nodes.proofs.Placed.{disk_passes}
use Rattle.test_disk.proofs.memory_changes.MemoryDiskReplaceDisk.remove.Goals as goal

pub invariant_of-self-2 : goal.invariant_of-self-2
invariant_of-self-2 c = record { passes = disk_passes (nodes_of c.in-Ok.left.entries) c.in-Ok.ensures.disk }
