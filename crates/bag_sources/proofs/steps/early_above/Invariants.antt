use Rattle.bag_sources.proofs.Common.{◌+◌, option_copied, Bag, IsFactsOf, AreAheadBefore}
use Rattle.bag_report.specs.Report.{check_with}
use Rattle.bag_sources.proofs.steps.early_above.Given as goal

abbrev pub invariant-loop-stage : goal.invariant-loop-stage
invariant-loop-stage l =
    (bag : Bag) → IsFactsOf bag l.facts
    → AreAheadBefore (check_with bag (option_copied l.profile) l.facts.options) (l.stage-index + 1)
    (option_copied l.after) l.faults.items
