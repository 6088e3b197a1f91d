use Rattle.bag_memory.proofs.Common.{arith}
use Rattle.bag_memory.proofs.fail_tree.FailTreeTree.TheImpl.Goals as goal

pub read-tells : goal.read-tells
read-tells g c = record {
  keeps = record {
    bag = grind arith;
    plain = grind arith;
    honest = grind arith;
    entries = grind arith;
    failures = grind arith;
    noted = grind arith;
    trail = grind arith;
  };
  no_failure = grind arith;
  openings = grind arith;
  file_open = grind arith;
  within = grind arith;
  given = grind arith;
  last = grind arith;
  honest = grind arith;
  same = grind arith;
  listed = grind arith;
  gave = grind arith;
  refused = grind arith;
}
