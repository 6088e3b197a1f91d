use Rattle.bag_program.proofs.Common.{Opened}
use Rattle.bag_program.proofs.folders.note_opened.Given as goal

abbrev pub ghost-note_of : goal.ghost-note_of
ghost-note_of g a = Opened a._value.now.now
