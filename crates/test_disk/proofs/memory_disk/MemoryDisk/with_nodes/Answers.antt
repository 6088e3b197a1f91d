use Rattle.test_nodes.specs.Held.{nodes_of}
use Rattle.test_nodes.proofs.Placed.{disk_passes}
use Rattle.test_disk.proofs.memory_disk.MemoryDisk.with_nodes.Goals as goal

pub invariant_of-result : goal.invariant_of-result
invariant_of-result c = record { passes = disk_passes (nodes_of c.args.nodes.entries) c.requires }
