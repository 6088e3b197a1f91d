use Rattle.bag_program.proofs.Common.{Entered}
use Rattle.bag_program.proofs.folders.Folders.enter.Given as goal

abbrev pub ghost-note_of : goal.ghost-note_of
ghost-note_of g a = Entered a._value.now.now
