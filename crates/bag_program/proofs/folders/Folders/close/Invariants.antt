use Rattle.bag_program.proofs.Common.{Closed}
use Rattle.bag_program.proofs.folders.Folders.close.Given as goal

abbrev pub ghost-note_of : goal.ghost-note_of
ghost-note_of g a = Closed (g.D.Reports.Reports.state a._value.now)
