use Rattle.bag_reports.specs.Reports.{SameReports}
use Rattle.bag_join.specs.Findings.{AreWhole, Findings}
use Rattle.bag_join.proofs.Placing.{FillsFirst}
use Rattle.bag_join.proofs.plan.plan_of.Given as goal

abbrev pub invariant-reports : goal.invariant-reports
invariant-reports g l =
    SameReports (g.R.Reports.state l.fn.input.reports) (g.R.Reports.state l.input.reports)
    × ((findings : Findings) (whole : AreWhole findings (g.R.Reports.state l.fn.input.reports))
    → FillsFirst whole.order l.places.items l.number)
