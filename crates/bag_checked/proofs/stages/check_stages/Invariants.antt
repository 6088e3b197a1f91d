use Rattle.bag_checked.proofs.Common.{◌+◌}
use Rattle.bag_checked.specs.FirstFaults.{HasNoneBefore}
use Rattle.bag_checked.proofs.stages.check_stages.Given as goal

-- no stage before this one has a fault
abbrev pub invariant-loop-stage : goal.invariant-loop-stage
invariant-loop-stage l = HasNoneBefore l.facts (l.stage-index + 1)
