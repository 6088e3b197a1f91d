-- The exit status of the program.
use Rattle.std.specs.Prelude.{ℕ, Option, Some, None, Result, Ok, Err}
use Rattle.bag_walk.specs.ExitStatus.{status}
use Rattle.bag_walk.specs.PartRuns.{part_status}
use Rattle.bag_walk.specs.declared.outcome.Outcome.TheVariants.{Unwritten}
use Rattle.bag_walk.specs.declared.part_run.PartOutcome.TheVariants as part
use Rattle.bag_cli.specs.declared.check_outcome.CheckOutcome.{CheckOutcome}
use Rattle.bag_cli.specs.declared.check_outcome.CheckOutcome.TheVariants.{OfBag, OfPart}

-- the status of a check whose whole report was written
abbrev pub check_status : CheckOutcome → Option ℕ
check_status (OfBag (Unwritten n)) = None
check_status (OfBag outcome) = Some (status outcome)
check_status (OfPart (part.Unwritten n)) = None
check_status (OfPart outcome) = Some (part_status outcome)

-- the same, where memory may have run out
abbrev pub whole_status : {E : Type 0} → Result CheckOutcome E → Option ℕ
whole_status (Ok outcome) = check_status outcome
whole_status (Err e) = None
