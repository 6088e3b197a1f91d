use Rattle.bag_reports.specs.Reports.{ReadsOn}
use Rattle.bag_reports.proofs.LastLine.{Nears}
use Rattle.bag_join.proofs.plan.last_line.Given as goal

abbrev pub invariant-lines : goal.invariant-lines
invariant-lines g l =
    ReadsOn (g.R.Reports.state l.initial.input.reports) (g.R.Reports.state l.input.reports)
    × Nears (g.R.Reports.state l.initial.input.reports) (g.R.Reports.state l.input.reports)
    l.initial.input.passed.bytes l.input.passed.bytes l.counter l.last.items
