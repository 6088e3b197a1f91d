use Rattle.std.proofs.Common.{refl, ap, ◌∙◌, []}
use Rattle.std.specs.FinMap as map
use Rattle.bag_disk.specs.Disk.Node.{File}
use Rattle.test_nodes.specs.Held.{nodes_of}
use Rattle.test_nodes.proofs.PutPlaced.{added_passes}
use Rattle.test_disk.proofs.memory_changes.MemoryDiskWritableDisk.create.Goals as goal

pub invariant_of-self-2 : goal.invariant_of-self-2
invariant_of-self-2 c =
    let nodes = nodes_of c.args.self.now.nodes.entries in
    let key = c.as_bytes.result.now in
    let added = c.in-Ok.ensures in
    let made = added.added ∙ ap (λ bytes. map.insert nodes key (File bytes)) c.new.ensures.items in
    record {
      passes =
          added_passes nodes (nodes_of c.add_node.new.nodes.entries) key c.args.path.now (File [])
          c.as_bytes.ensures.value made
          c.args.self.now.passes c.requires c.utf8.path refl added.free added.reached;
    }
