-- The statuses of the arms of what a plan asks for.
use Rattle.bag_cli.proofs.Common.{◌≤◌, inl, inr, ℕ, List, Option, arith, DiskState, OutState, Event, tree_state, Plan}
use Rattle.bag_cli.proofs.Common.{ArchiveState, AreChecked, AreTarsChecked, Checks, IsChecked, IsDoneBy}
use Rattle.bag_cli.proofs.Common.{◌≡◌, AreJoined, Outcome, Refusal, ReportsState, Result, SummedProfile}
use Rattle.bag_cli.proofs.Common.{in_form, join_status}
use Rattle.bag_arguments.specs.declared.plan.Action.{Action}
use Rattle.bag_arguments.specs.declared.plan.Action.TheVariants.{Sample, Help, Check, CheckTars, Join, Make}
use Rattle.bag_cli.proofs.Checks.{checks_status, tars_status}
use Rattle.bag_program.proofs.Deeds.{said_status}
use Rattle.bag_cli.proofs.Makings.{makings_status}

-- what is checked by a profile has a status, where each check has one
pub checked_status : (checked : Checks)
    → ((profile : Option SummedProfile) (before after : OutState) (visits : List Event) (n : ℕ)
    → checked profile before after visits n → n ≤ 3)
    → (file : List ℕ → Option (List ℕ) → Type 0) (plan : Plan) (path : Option (List ℕ)) (before after : OutState)
    (visits : List Event) (n : ℕ)
    → IsChecked checked file plan path before after visits n → n ≤ 3
checked_status checked statuses file plan path before after visits n done = grind (arith, statuses)

-- joined or not, there is a status
join_has_status : (joined : Result Outcome Refusal) (n : ℕ) → n ≡ join_status joined → n ≤ 3
join_has_status joined n is = grind arith

pub joined_status : (reported : List (List ℕ) → ReportsState) (paths : List (List ℕ)) (before after : OutState)
    (visits : List Event) (n : ℕ) → AreJoined reported paths before after visits n → n ≤ 3
joined_status reported paths before after visits n (inl none) = omega (arith, none.0)
joined_status reported paths before after visits n (inr done) = join_has_status done.joined n done.status_is

-- what a plan says has a status
pub performed_status : (below : List ℕ → DiskState) (archived : List ℕ → ArchiveState)
    (reported : List (List ℕ) → ReportsState)
    (file : List ℕ → Option (List ℕ) → Type 0) (plan : Plan) (action : Action) (before after : OutState)
    (visits : List Event) (n : ℕ)
    → IsDoneBy action below archived reported file plan before after visits n → n ≤ 3
performed_status below archived reported file plan Sample before after visits n done = grind (arith, checks_status)
performed_status below archived reported file plan (Help text) before after visits n done =
    said_status text before after visits n done
performed_status below archived reported file plan Check before after visits n done =
    checked_status (AreChecked below plan)
    (λ profile. checks_status plan profile (λ name. tree_state (below name) 0) plan.directories) file plan plan.profile
    before after visits n done
performed_status below archived reported file plan CheckTars before after visits n done =
    checked_status (AreTarsChecked archived plan)
    (λ profile. tars_status plan (in_form CheckTars profile) archived plan.directories) file plan plan.profile
    before after visits n done
performed_status below archived reported file plan Join before after visits n done =
    joined_status reported plan.directories before after visits n done
performed_status below archived reported file plan Make before after visits n done =
    makings_status plan (λ name. tree_state (below name) 0) plan.directories before after visits n done
