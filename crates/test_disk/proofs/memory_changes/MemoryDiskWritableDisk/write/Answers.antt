use Rattle.test_nodes.specs.Held.{nodes_of}
use Rattle.test_nodes.proofs.Placed.{bytes_below}
use Rattle.test_nodes.proofs.PutPlaced.{appended_passes}
use Rattle.test_disk.proofs.memory_changes.MemoryDiskWritableDisk.write.Goals as goal

pub invariant_of-self-2 : goal.invariant_of-self-2
invariant_of-self-2 c = record {
  passes =
      appended_passes (nodes_of c.args.self.now.nodes.entries) (nodes_of c.append.new.nodes.entries)
      c.as_bytes.result.now c.args.bytes.now
      c.args.self.now.passes c.in-Ok.ensures.appended (bytes_below c.args.bytes.now c.type_inv.bytes);
}
