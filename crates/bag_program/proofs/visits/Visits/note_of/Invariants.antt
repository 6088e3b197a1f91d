use Rattle.bag_program.proofs.visits.Visits.note_of.Given as goal

abbrev pub ghost-note_of : goal.ghost-note_of
ghost-note_of g a = g.event
