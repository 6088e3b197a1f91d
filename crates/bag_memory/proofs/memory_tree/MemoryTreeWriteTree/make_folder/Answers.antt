use Rattle.bag_memory.proofs.Common.{arith, refl, false≢true}
use Rattle.bag_memory.proofs.Changed.{memory_changed, count_made}
use Rattle.bag_memory.proofs.InMemory.{folder_put_passes, text_name_of}
use Rattle.bag_memory.proofs.memory_tree.MemoryTreeWriteTree.make_folder.Goals as goal

pub invariant_of-self : goal.invariant_of-self
invariant_of-self c = grind (arith, folder_put_passes, text_name_of)

pub returns-in-Ok : goal.returns-in-Ok
returns-in-Ok c = record {
  changed = memory_changed _ _ _ _ _ _ _ _ _ _ refl c.in-Ok.ensures.added (count_made c.args.name.now _);
  no_failure = refl;
  possible = grind arith;
  last = refl;
  leaves = tt;
  refused = tt;
  asked = λ noted. absurd (false≢true noted);
}
