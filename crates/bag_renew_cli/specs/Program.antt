-- What the whole program does, and which folders it looks into meanwhile.
use Rattle.std.specs.Prelude.{ℕ, ◌≡◌, true, List, Result, Ok, Err}
use Rattle.bag_tree.specs.Out.{OutState}
use Rattle.bag_program.specs.InTurn.{Deed}
use Rattle.bag_program.specs.Deeds.{Below, IsNothing}
use Rattle.bag_program.specs.Visits.{Event}
use Rattle.bag_renew_cli.specs.Plan.{IsNotRefused, IsPlanned, usage_status}
use Rattle.bag_renew_cli.specs.Renewals.{IsPerformed}
use Rattle.bag_renew_cli.specs.Words.{clap_takes}
use Rattle.bag_renew_cli.specs.declared.plan.RenewPlan.{RenewPlan}
use Rattle.bag_renew_cli.specs.declared.usage.RenewUsage.{RenewUsage}

-- a plan was performed; where the words are refused, nothing is written
abbrev pub IsPlanPerformed : Below → Result RenewPlan RenewUsage → Deed
IsPlanPerformed below (Err usage) before after visits n =
    IsNothing (usage_status usage) before after visits n
IsPlanPerformed below (Ok plan) before after visits n =
    IsPerformed below plan before after visits n

-- What the words ask for was done, on disks that hold this below each base folder: a plan of them
-- was performed, or they were refused for a reason that they have. Words that clap takes are none
-- that the program doesn't take.
pub record IsProgram (below : Below) (words : List (List ℕ))
    (before after : OutState) (visits : List Event) (n : ℕ) : Type 0 where
  pub planned : Result RenewPlan RenewUsage
  pub is_planned : IsPlanned words planned
  pub taken : clap_takes words ≡ true → IsNotRefused planned
  pub done : IsPlanPerformed below planned before after visits n
