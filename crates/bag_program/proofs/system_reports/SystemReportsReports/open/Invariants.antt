use Rattle.bag_program.proofs.Common.{[]}
use Rattle.bag_program.proofs.system_reports.SystemReportsReports.open.Given as goal

abbrev pub ghost-note_of : goal.ghost-note_of
ghost-note_of g a = a._given.now.bytes

abbrev pub ghost-new : goal.ghost-new
ghost-new g a = []
