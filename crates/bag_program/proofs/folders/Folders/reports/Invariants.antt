use Rattle.bag_program.proofs.Common.{Asked}
use Rattle.bag_program.proofs.folders.Folders.reports.Given as goal

abbrev pub ghost-note_of : goal.ghost-note_of
ghost-note_of g a = Asked a._value.now.now
