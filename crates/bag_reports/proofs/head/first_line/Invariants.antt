use Rattle.std.proofs.Common.{◌≡◌, ◌++◌, List, ℕ}
use Rattle.bag_reports.specs.Head.{AreKeys, head_of}
use Rattle.bag_reports.specs.Reports.{ReadsOn}
use Rattle.bag_reports.proofs.KeyLines.{Leads}
use Rattle.bag_reports.proofs.head.first_line.Given as goal

abbrev pub invariant-lines : goal.invariant-lines
invariant-lines g l =
    ReadsOn (g.R.Reports.state l.initial.input.reports) (g.R.Reports.state l.input.reports)
    × ((keys : List (List ℕ)) × AreKeys keys
    × (l.input.passed.bytes ≡ l.initial.input.passed.bytes ++ head_of keys))
    × Leads (g.R.Reports.state l.initial.input.reports) (g.R.Reports.state l.input.reports)
    l.initial.input.passed.bytes l.input.passed.bytes
