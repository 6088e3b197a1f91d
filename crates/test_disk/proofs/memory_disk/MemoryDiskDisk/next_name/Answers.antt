use Rattle.std.proofs.Common.{arith, ◌<◌, length, get_or, ap, sym, subst, ◌∙◌, IsUtf8}
use Rattle.std.proofs.lemmas.Grind.{common_steps}
use Rattle.test_nodes.proofs.HeldNames.{next_unnamed}
use Rattle.test_disk.proofs.memory_disk.MemoryDiskDisk.next_name.Goals as goal

pub returns-in_default-from_utf8-clause-names : goal.returns-in_default-from_utf8-clause-names
returns-in_default-from_utf8-clause-names c = record {
  looks = grind (arith, common_steps);
  unnamed = λ is honest.
      let a = c.args.self.now in
      let name = c.in-Some.name.now in
      let found = c.in-Some.ensures.lookup in
      next_unnamed a.names a.named name
      (subst (λ names. a.named < length names) c.as_slice.ensures found.3.0)
      (sym (found.1 ∙ ap (λ names. get_or names a.named name) c.as_slice.ensures))
      (λ text. c.in_default-from_utf8.ensures.cases.0 (subst IsUtf8 (sym c.as_slice-2.ensures) text));
  honest = grind (arith, common_steps);
  path = grind (arith, common_steps);
  failures = grind (arith, common_steps);
}
