use Rattle.std.proofs.Common.{subst, sym, ap, ◌∙◌}
use Rattle.bag_disk.specs.DiskNodes.{IsDisk}
use Rattle.test_nodes.specs.Held.{nodes_of}
use Rattle.test_disk.specs.MemoryDisk.{fresh}
use Rattle.test_nodes.specs.PlacingLaw.{passing_is_disk}
use Rattle.test_nodes.proofs.HeldCopied.{held_cloned}
use Rattle.test_disk.proofs.memory_disk.MemoryDisk.fresh_copy.Goals as goal

pub with_nodes-requires : goal.with_nodes-requires
with_nodes-requires c =
    let same = held_cloned c.args.self.now.nodes.entries _ c.in_ok-clone.ensures.cases in
    subst IsDisk (sym same) (passing_is_disk (nodes_of c.args.self.now.nodes.entries) c.args.self.now.passes)

pub returns-clause-disk : goal.returns-clause-disk
returns-clause-disk c = c.with_nodes.ensures.disk
    ∙ ap fresh (held_cloned c.args.self.now.nodes.entries _ c.in_ok-clone.ensures.cases)
