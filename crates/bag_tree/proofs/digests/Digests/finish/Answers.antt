use Rattle.bag_tree.proofs.Common.{◌-◌, None, rank, rank_within}
use Rattle.bag_tree.proofs.SumsOf.{sums_of_hashes}
use Rattle.bag_tree.proofs.digests.Digests.finish.Goals as goal

pub returns : goal.returns
returns c = λ algs message taken. rw c.new.ensures (sums_of_hashes algs message c.map.result (λ alg.
    let finished = c.map.ensures.items.at (rank alg - 1) None None (rank_within alg) in
    finished.2.met algs alg message (taken.hashers alg)))
