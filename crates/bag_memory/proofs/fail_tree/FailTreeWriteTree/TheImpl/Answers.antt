use Rattle.bag_memory.proofs.Common.{arith}
use Rattle.bag_tree.proofs.Added.{no_syncs}
use Rattle.bag_memory.proofs.fail_tree.FailTreeWriteTree.TheImpl.Goals as goal

pub move_in-tells : goal.move_in-tells
move_in-tells g c = record {
  changed = grind arith;
  no_failure = grind arith;
  possible = grind arith;
  last = grind arith;
  leaves = grind arith;
  refused = grind arith;
  asked = grind (arith, no_syncs);
}

pub rename_folder-tells : goal.rename_folder-tells
rename_folder-tells g c = record {
  changed = grind arith;
  no_failure = grind arith;
  possible = grind arith;
  last = grind arith;
  leaves = grind arith;
  refused = grind arith;
  asked = grind (arith, no_syncs);
}
