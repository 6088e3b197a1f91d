use Rattle.bag_memory.proofs.Common.{sym, arith, refl, false≢true}
use Rattle.bag_memory.proofs.Changed.{memory_changed, count_moved, folder_there}
use Rattle.bag_memory.proofs.InMemory.{bag_passes, text_name_of}
use Rattle.bag_memory.proofs.MovedBag.{move_passes}
use Rattle.bag_memory.proofs.memory_tree.MemoryTreeWriteTree.move_in.Goals as goal

pub invariant_of-self : goal.invariant_of-self
invariant_of-self c = record {
  passes =
      bag_passes _ _ _ c.in-Ok.ensures.files c.in-Ok.ensures.folders
      (move_passes _ c.args.top.now c.args.folder.now
      (text_name_of c.args.folder.now c.requires.folder c.utf8.folder)
      (λ e. c.requires.two (sym e)) (folder_there _ c.args.top.now c.args.folder.now c.in-Ok.ensures.there)
      c.args.self.now.passes);
}

pub returns-in-Ok : goal.returns-in-Ok
returns-in-Ok c = record {
  changed =
      memory_changed _ _ _ _ _ _ _ _ _ _ c.in-Ok.ensures.files c.in-Ok.ensures.folders
      (count_moved c.args.top.now c.args.folder.now _);
  no_failure = refl;
  possible = grind arith;
  last = refl;
  leaves = tt;
  refused = tt;
  asked = λ noted. absurd (false≢true noted);
}
