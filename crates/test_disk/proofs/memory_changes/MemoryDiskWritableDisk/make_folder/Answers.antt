use Rattle.std.proofs.Common.{refl}
use Rattle.bag_disk.specs.Disk.Node.{Folder}
use Rattle.test_nodes.specs.Held.{nodes_of}
use Rattle.test_nodes.proofs.PutPlaced.{added_passes}
use Rattle.test_disk.proofs.memory_changes.MemoryDiskWritableDisk.make_folder.Goals as goal

pub invariant_of-self-2 : goal.invariant_of-self-2
invariant_of-self-2 c =
    let added = c.in-Ok.ensures in
    record {
      passes =
          added_passes (nodes_of c.args.self.now.nodes.entries) (nodes_of c.add_node.new.nodes.entries)
          c.as_bytes.result.now c.args.path.now Folder c.as_bytes.ensures.value added.added
          c.args.self.now.passes c.requires c.utf8.path refl added.free added.reached;
    }
