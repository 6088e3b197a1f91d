use Rattle.bag_cli.proofs.Common.{◌≡◌, ◌≢◌, ℕ, List, inl, inr, AreJoined, Event, OutState, Outcome, ReportsState}
use Rattle.bag_cli.proofs.Common.{status}
use Rattle.bag_join.specs.Findings.{AreWhole, Findings, IsReportOf}
use Rattle.bag_cli.proofs.Joins.{whole_joined}
use Rattle.bag_cli.proofs.laws.honest_reports_are_joined.Goals as goal

joined : (reported : List (List ℕ) → ReportsState) (paths : List (List ℕ)) (findings : Findings)
    (before after : OutState) (visits : List Event) (n : ℕ) → AreWhole findings (reported paths)
    → AreJoined reported paths before after visits n → n ≢ 3
    → (outcome : Outcome) × (n ≡ status outcome) × IsReportOf findings before after outcome
joined reported paths findings before after visits n whole (inl none) no_failure = absurd (no_failure none.0)
joined reported paths findings before after visits n whole (inr done) no_failure =
    whole_joined (reported paths) done.new before after n findings done.joined whole done.join done.status_is no_failure

pub returns : goal.returns
returns c reported paths findings before after visits n whole done no_failure =
    joined reported paths findings before after visits n whole done no_failure
