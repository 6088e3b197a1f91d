use Rattle.bag_program.proofs.Common.{◌≡◌, length}
use Rattle.bag_program.proofs.system_reports.SystemReports.at.Given as goal

abbrev pub invariant-loop-path : goal.invariant-loop-path
invariant-loop-path g l = length l.own.items ≡ l.path-index
