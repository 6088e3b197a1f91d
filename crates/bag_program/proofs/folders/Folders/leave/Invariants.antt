use Rattle.bag_program.proofs.Common.{Left}
use Rattle.bag_program.proofs.folders.Folders.leave.Given as goal

abbrev pub ghost-note_of : goal.ghost-note_of
ghost-note_of g a = Left (g.T.Tree.state a._value.now)
