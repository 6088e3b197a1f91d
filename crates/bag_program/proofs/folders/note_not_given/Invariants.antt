use Rattle.bag_program.proofs.Common.{NotGiven}
use Rattle.bag_program.proofs.folders.note_not_given.Given as goal

abbrev pub ghost-note_of : goal.ghost-note_of
ghost-note_of g a = NotGiven a._value.now.now
