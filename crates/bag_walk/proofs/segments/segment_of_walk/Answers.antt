use Rattle.bag_walk.proofs.segments.segment_of_walk.Goals as goal

pub returns : goal.returns
returns g c = rw c.into_tree.ensures c.write_faults-segment.ensures
