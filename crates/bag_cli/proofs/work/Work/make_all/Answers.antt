use Rattle.bag_cli.proofs.work.Work.make_all.Goals as goal

pub returns : goal.returns
returns g c = rw c.as_slice.ensures at c.in_turn.ensures
