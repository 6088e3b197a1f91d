use Rattle.bag_tree.proofs.Common.{rules, ◌-◌, None, rank, rank_within}
use Rattle.bag_tree.proofs.digests.Digests.new.Goals as goal

pub returns : goal.returns
returns c =
    record {
      bytes = search rules;
      hashers = λ alg.
          let made = c.map.ensures.items.at (rank alg - 1) alg None (rank_within alg) in search rules;
    }
