use Rattle.std.proofs.Common.{◌≡◌, ◌++◌}
use Rattle.bag_reports.specs.Input.{HasNoEnd}
use Rattle.bag_reports.specs.Reports.{ReadsOn}
use Rattle.bag_reports.proofs.input.Input.next_line.Given as goal

abbrev pub invariant-bytes : goal.invariant-bytes
invariant-bytes g l =
    ReadsOn (g.R.Reports.state l.initial.self.reports) (g.R.Reports.state l.self.reports)
    × (l.self.passed.bytes ≡ l.initial.self.passed.bytes ++ l.line.items) × HasNoEnd l.line.items
