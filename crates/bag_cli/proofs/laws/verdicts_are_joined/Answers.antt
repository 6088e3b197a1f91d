use Rattle.bag_cli.proofs.Common.{◌≡◌, ◌≢◌, ℕ, List, inl, inr, AreJoined, Event, OutState, Outcome, ReportsState}
use Rattle.bag_cli.proofs.Common.{status}
use Rattle.bag_join.specs.Join.{IsJoined}
use Rattle.bag_reports.specs.Reports.{all_given}
use Rattle.bag_cli.proofs.Joins.{verdict_joined}
use Rattle.bag_cli.proofs.laws.verdicts_are_joined.Goals as goal

joined : (reported : List (List ℕ) → ReportsState) (paths : List (List ℕ)) (before after : OutState)
    (visits : List Event) (n : ℕ) → AreJoined reported paths before after visits n → n ≢ 3
    → (new : ReportsState) × (outcome : Outcome) × (n ≡ status outcome)
    × IsJoined (all_given new) before after outcome
joined reported paths before after visits n (inl none) no_failure = absurd (no_failure none.0)
joined reported paths before after visits n (inr done) no_failure =
    let one = verdict_joined (reported paths) done.new before after n done.joined done.join done.status_is no_failure in
    (done.new, one.0, one.1, one.2)

pub returns : goal.returns
returns c reported paths before after visits n done no_failure =
    joined reported paths before after visits n done no_failure
