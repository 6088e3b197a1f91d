use Rattle.bag_reports.proofs.input.Input.over.Given as goal

abbrev pub ghost-new : goal.ghost-new
ghost-new g a = g.given
