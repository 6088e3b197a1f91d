use Rattle.bag_walk.proofs.part_run.put_part_closing.Goals as goal

pub returns-in-Stopped : goal.returns-in-Stopped
returns-in-Stopped g c = rw c.in-Stopped.is (rw c.as_str-name.ensures at c.put_count.ensures)

pub returns-in-Rest : goal.returns-in-Rest
returns-in-Rest g c = rw c.in-Rest.is (rw c.as_str-name.ensures at c.put_end.ensures)
