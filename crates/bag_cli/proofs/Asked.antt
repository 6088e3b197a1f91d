-- What was asked for, a whole check or one of a part, is what was done.
use Rattle.bag_cli.proofs.Common.{◌≡◌, ◌≢◌, ◌≤◌, ℕ, Option, Some, None, refl, subst, arith, OutState, TreeState, Outcome}
use Rattle.bag_cli.proofs.Common.{SummedProfile, Request, profile_of, status, CheckOutcome}
use Rattle.bag_faults.specs.Part.{Part}
use Rattle.bag_walk.specs.WholeRun.{IsRunOver}
use Rattle.bag_walk.specs.declared.part_run.PartOutcome.{PartOutcome}
use Rattle.bag_cli.specs.Checked.{IsCheckBy}
use Rattle.bag_cli.specs.Status.{check_status}
use Rattle.bag_cli.specs.declared.check_outcome.CheckOutcome.TheVariants.{OfBag, OfPart}

module _ (profile : Option SummedProfile) (tree new : TreeState) (request : Request) (before after : OutState) where
  run_of_none : (outcome : CheckOutcome) → IsCheckBy None profile tree new request before after outcome
      → (whole : Outcome) × (outcome ≡ OfBag whole) × IsRunOver tree new (profile_of profile) request before after whole
  run_of_none (OfBag whole) run = (whole, refl, run)
  run_of_none (OfPart outcome) run = absurd run

  -- where no part is asked for, the whole report was
  pub as_run : (part : Option Part) (outcome : CheckOutcome) → part ≡ None
      → IsCheckBy part profile tree new request before after outcome
      → (whole : Outcome) × (outcome ≡ OfBag whole) × IsRunOver tree new (profile_of profile) request before after whole
  as_run part outcome e run =
      run_of_none outcome (subst (λ p. IsCheckBy p profile tree new request before after outcome) e run)

  -- where a part is asked for, the status isn't 0
  pub part_is_no_zero : (part : Option Part) (outcome : CheckOutcome) (n : ℕ) → part ≢ None
      → IsCheckBy part profile tree new request before after outcome → check_status outcome ≡ Some n → 1 ≤ n
  part_is_no_zero None outcome n some run e = absurd (some refl)
  part_is_no_zero (Some part) (OfBag whole) n some run e = absurd run
  part_is_no_zero (Some part) (OfPart outcome) n some run e = status_of_part outcome n e where
    status_of_part : (outcome : PartOutcome) (n : ℕ) → check_status (OfPart outcome) ≡ Some n → 1 ≤ n
    status_of_part outcome n e = grind arith

-- the status of a whole check
pub whole_status_is : (whole : Outcome) (n : ℕ) → check_status (OfBag whole) ≡ Some n → n ≡ status whole
whole_status_is whole n e = grind arith
