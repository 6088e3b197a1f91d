use Rattle.bag_memory.proofs.Common.{arith, refl, false≢true}
use Rattle.bag_memory.proofs.Changed.{memory_changed, count_renamed, not_lacking, free_differs}
use Rattle.bag_memory.proofs.InMemory.{bag_passes, text_name_of}
use Rattle.bag_memory.proofs.MovedBag.{rename_passes}
use Rattle.bag_memory.proofs.memory_tree.MemoryTreeWriteTree.rename_folder.Goals as goal

pub invariant_of-self : goal.invariant_of-self
invariant_of-self c = record {
  passes =
      bag_passes _ _ _ c.in-Ok.ensures.files c.in-Ok.ensures.folders
      (rename_passes _ c.args.from.now c.args.to.now c.requires.from
      (text_name_of c.args.to.now c.requires.to c.utf8.to)
      (free_differs _ c.args.from.now c.args.to.now c.in-Ok.ensures.there c.in-Ok.ensures.free) c.args.self.now.passes);
}

pub returns-in-Ok : goal.returns-in-Ok
returns-in-Ok c = record {
  changed =
      memory_changed _ _ _ _ _ _ _ _ _ _ c.in-Ok.ensures.files c.in-Ok.ensures.folders
      (count_renamed c.args.from.now c.args.to.now _ (not_lacking _ c.in-Ok.ensures.there));
  no_failure = refl;
  possible = grind arith;
  last = refl;
  leaves = tt;
  refused = tt;
  asked = λ noted. absurd (false≢true noted);
}
