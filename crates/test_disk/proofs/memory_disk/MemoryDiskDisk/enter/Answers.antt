use Rattle.std.proofs.Common.{arith, subst, sym, ap, ◌∙◌}
use Rattle.std.proofs.lemmas.Grind.{common_steps}
use Rattle.bag_disk.specs.DiskNodes.{AreNamesIn}
use Rattle.test_nodes.specs.Held.{names_in, nodes_of}
use Rattle.test_nodes.proofs.HeldNames.{names_are_in}
use Rattle.test_disk.proofs.memory_disk.MemoryDiskDisk.enter.Goals as goal

pub returns-clause-enters : goal.returns-clause-enters
returns-clause-enters c = record {
  looks = grind (arith, common_steps);
  honest = λ honest folder.
      let held = c.args.self.now.nodes.entries in
      subst (AreNamesIn (nodes_of held) c.args.folder.now)
      (sym (c.in_ok-self.ensures ∙ ap (λ folder. names_in folder held) c.as_bytes.ensures.value))
      (names_are_in held c.args.folder.now);
  failures = grind (arith, common_steps);
}
