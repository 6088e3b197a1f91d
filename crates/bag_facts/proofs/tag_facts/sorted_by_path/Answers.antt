use Rattle.bag_facts.proofs.tag_facts.sorted_by_path.Goals as goal

pub returns-clause-sorted : goal.returns-clause-sorted
returns-clause-sorted c = rw c.from_vec.ensures c.in_ok-sort_by_path.ensures.sorted

pub returns-clause-permutation : goal.returns-clause-permutation
returns-clause-permutation c =
    rw c.from_vec.ensures (rw c.into_vec-entries.ensures at c.sort_by_path.ensures.permutation)
