use Rattle.bag_walk.proofs.closing.put_count.Goals as goal

pub returns : goal.returns
returns g c = rw c.format.ensures.text at c.put_line.ensures
