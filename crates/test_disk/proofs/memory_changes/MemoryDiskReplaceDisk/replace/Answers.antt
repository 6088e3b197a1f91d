use Rattle.std.proofs.Common.{ℕ, List, subst, sym}
use Rattle.bag_disk.specs.DiskNodes.{IsFileWith}
use Rattle.bag_disk.specs.ReplaceDisk.{Replaces}
use Rattle.test_nodes.specs.Held.{nodes_of}
use Rattle.test_nodes.proofs.Placed.{disk_passes}
use Rattle.test_disk.proofs.memory_changes.MemoryDiskReplaceDisk.replace.Goals as goal

pub invariant_of-self-2 : goal.invariant_of-self-2
invariant_of-self-2 c = record { passes = disk_passes (nodes_of c.in-Ok.put.entries) c.in-Ok.ensures.disk }

pub returns-clause-replaced : goal.returns-clause-replaced
returns-clause-replaced c = λ _ _ _ bytes at.
    let held = nodes_of c.args.self.now.nodes.entries in
    let new = nodes_of c.in-Ok.put.entries in
    let from = c.as_bytes.ensures.value in
    let there = subst (λ (p : List ℕ). IsFileWith held p bytes) (sym from) at in
    subst (λ (p : List ℕ). Replaces held new c.args.from.now p bytes) c.as_bytes-2.ensures.value
    (subst (λ (p : List ℕ). Replaces held new p c.as_bytes-2.result.now bytes) from
    (c.in-Ok.ensures.put bytes there))
