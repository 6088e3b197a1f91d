use Rattle.bag_reports.proofs.noted.Noted.after.Given as goal

abbrev pub ghost-these : goal.ghost-these
ghost-these g a = g.items
