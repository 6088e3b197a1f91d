use Rattle.bag_memory.proofs.Common.{and_parts, refl, arith, false≢true}
use Rattle.bag_memory.proofs.Changed.{memory_changed, count_created, no_folder_for_name}
use Rattle.bag_memory.proofs.InMemory.{file_put_passes, bytes_below, text_path_of}
use Rattle.bag_memory.proofs.memory_tree.MemoryTreeWriteTree.create.Goals as goal

pub invariant_of-self : goal.invariant_of-self
invariant_of-self c = record {
  passes =
      file_put_passes _ _ c.args.name.now c.args.bytes.now c.in-Ok.ensures.added
      (no_folder_for_name _ c.args.name.now c.requires)
      (text_path_of c.args.name.now (and_parts _ _ c.requires).0 c.utf8.name)
      (bytes_below c.args.bytes.now c.type_inv.bytes) c.args.self.now.passes;
}

pub returns-in-Ok-clause-creates : goal.returns-in-Ok-clause-creates
returns-in-Ok-clause-creates c = record {
  changed =
      memory_changed _ _ _ _ _ _ _ _ _ _ c.in-Ok.ensures.added refl (count_created c.args.name.now c.args.bytes.now _);
  no_failure = refl;
  possible = grind arith;
  last = refl;
  leaves = tt;
  refused = tt;
  asked = λ noted. absurd (false≢true noted);
}
