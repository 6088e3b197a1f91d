use Rattle.bag_tree.proofs.Common.{◌≡◌, length, algs}
use Rattle.bag_tree.proofs.Updates.{AreUpdatedTo}
use Rattle.bag_tree.proofs.digests.Digests.update.Given as goal

abbrev pub invariant-loop-slot : goal.invariant-loop-slot
invariant-loop-slot l = record {
  long : length l.slot-items ≡ length algs;
  updated : AreUpdatedTo l.slot-index l.fn.self.hashers l.slot-items l.bytes;
}
