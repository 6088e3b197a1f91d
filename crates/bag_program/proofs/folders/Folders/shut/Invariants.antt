use Rattle.bag_program.proofs.Common.{Shut}
use Rattle.bag_program.proofs.folders.Folders.shut.Given as goal

abbrev pub ghost-note_of : goal.ghost-note_of
ghost-note_of g a = Shut (g.D.Archive.Archive.state a._value.now)
