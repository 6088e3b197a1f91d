use Rattle.std.proofs.Common.{IsTrue, length}
use Rattle.bag_reports.specs.Reports.{SameReports}
use Rattle.bag_join.specs.Findings.{AreFindings, Findings, IsPlanFor}
use Rattle.bag_join.specs.Join.{JoinsFirst}
use Rattle.bag_join.proofs.Turns.{WritesFirst}
use Rattle.bag_join.proofs.parts.write_parts.Given as goal

abbrev pub invariant-parts : goal.invariant-parts
invariant-parts g l =
    JoinsFirst l.plan.subject (length l.plan.places.items) (g.R.Reports.state l.initial.input.reports)
    (g.R.Reports.state l.input.reports) l.last (g.W.Out.state l.initial.out) (g.W.Out.state l.out) l.index l.total
    × SameReports (g.R.Reports.state l.initial.input.reports) (g.R.Reports.state l.input.reports)
    × ((findings : Findings) → AreFindings findings → IsTrue (g.R.Reports.state l.initial.input.reports).honest
    → IsPlanFor findings (g.R.Reports.state l.initial.input.reports) l.plan
    → WritesFirst findings l.index l.last (g.W.Out.state l.initial.out) (g.W.Out.state l.out) l.total)
