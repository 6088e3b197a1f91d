use Rattle.bag_entries.proofs.RepeatedLines.{different_by_marks}
use Rattle.bag_entries.proofs.repeats.fingerprints_differ.Goals as goal

pub returns : goal.returns
returns c = λ differ.
    different_by_marks c.args.entries.now c.in_ok-fingerprints.fingerprints.items c.sort_unstable.new.self.items
    c.in_ok-fingerprints.ensures c.sort_unstable.ensures.permutation
    (rw c.as_slice.ensures.value at (c.is_increasing.ensures differ))
