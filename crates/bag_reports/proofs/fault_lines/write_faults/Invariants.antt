use Rattle.std.proofs.Common.{◌≡◌, ◌++◌, List}
use Rattle.std.specs.List.{concat}
use Rattle.bag_faults.specs.declared.fault.Fault.{Fault}
use Rattle.bag_reports.specs.Faults.{WritesFaults}
use Rattle.bag_reports.specs.Reports.{ReadsOn}
use Rattle.bag_walk.specs.Ending.{written}
use Rattle.bag_reports.proofs.Coming.{GoesOn}
use Rattle.bag_reports.proofs.fault_lines.write_faults.Given as goal

abbrev pub invariant-lines : goal.invariant-lines
invariant-lines g l =
    ReadsOn (g.R.Reports.state l.initial.input.reports) (g.R.Reports.state l.input.reports)
    × ((faults : List Fault)
    × WritesFaults l.initial.last l.last (g.W.Out.state l.initial.out) (g.W.Out.state l.out) l.count faults
    × (l.input.passed.bytes ≡ l.initial.input.passed.bytes ++ concat (written faults))
    × GoesOn (g.R.Reports.state l.initial.input.reports) (g.R.Reports.state l.input.reports)
    l.initial.input.passed.bytes l.input.passed.bytes l.initial.last faults)
