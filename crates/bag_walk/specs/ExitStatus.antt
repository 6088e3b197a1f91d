-- The exit status of an outcome.
use Rattle.std.specs.Prelude.{ℕ}
use Rattle.bag_walk.specs.declared.outcome.Outcome.{Outcome}
use Rattle.bag_walk.specs.declared.outcome.Outcome.TheVariants.{Clean, Faults, Stopped, Rest}
use Rattle.bag_walk.specs.declared.outcome.Outcome.TheVariants.{Unread, Unwritten}

-- the exit status of a run
abbrev pub status : Outcome → ℕ
status Clean = 0
status (Faults n) = 1
status (Stopped n) = 1
status (Rest n) = 1
status (Unread n stop) = 3
status (Unwritten n) = 3
