use Rattle.std.proofs.Common.{◌≡◌, None, arith}
use Rattle.std.proofs.lemmas.Grind.{common_steps}
use Rattle.bag_disk.specs.DiskNodes.{node}
use Rattle.bag_tree.specs.Moved.{moved}
use Rattle.test_nodes.specs.Held.{nodes_of}
use Rattle.test_nodes.proofs.HeldMoved.{others_stay}
use Rattle.test_nodes.proofs.Placed.{disk_passes}
use Rattle.test_disk.proofs.memory_changes.MemoryDiskWritableDisk.rename.Goals as goal

pub invariant_of-self-2 : goal.invariant_of-self-2
invariant_of-self-2 c = record { passes = disk_passes (nodes_of c.in-Ok.moved.entries) c.in-Ok.ensures.disk }

pub returns-clause-renames : goal.returns-clause-renames
returns-clause-renames c =
    let nodes = nodes_of c.args.self.now.nodes.entries in
    let new = nodes_of c.in-Ok.moved.entries in
    let free : node nodes c.args.to.now ≡ None = grind (arith, common_steps) in
    let made : new ≡ moved c.args.from.now c.args.to.now nodes = grind (arith, common_steps) in
    record {
      moved = grind (arith, common_steps);
      others = λ _ _ _.
          others_stay nodes new c.args.from.now c.args.to.now c.args.self.now.passes free made;
      closed = grind (arith, common_steps);
      ended = grind (arith, common_steps);
      taken = grind (arith, common_steps);
      absent = grind (arith, common_steps);
      same = grind (arith, common_steps);
      same_file = grind (arith, common_steps);
      noted = grind (arith, common_steps);
      failures = grind (arith, common_steps);
    }
