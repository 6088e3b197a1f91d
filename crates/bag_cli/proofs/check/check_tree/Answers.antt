use Rattle.bag_cli.proofs.check.check_tree.Goals as goal

pub returns-in-Ok : goal.returns-in-Ok
returns-in-Ok g c = rw (← c.in-Ok.ensures) c.check_asked-tree.ensures
