use Rattle.bag_cli.proofs.Common.{◌≡◌, inl, ◌∷◌, [], List, None, refl, MatchResult, codes, Result, Ok}
use Rattle.bag_cli.proofs.Common.{Err, OutState, Event, NotGiven, CheckOutcome, Plan, HaveNoFailure, HasRunOut}
use Rattle.bag_cli.proofs.Common.{IsCheckOfSample, IsLastCheck, IsVisitToCheck, IsWholeCheck, visit_of, sample_state}
use Rattle.bag_cli.proofs.Common.{whole_status}
use Rattle.bag_cli.proofs.Checks.{next_check}
use Rattle.bag_program.proofs.Turns.{only_one}
use Rattle.bag_cli.proofs.all_checks.check_samples.Goals as goal

-- the check of the sample, as a visit to a folder of its name during which no device failed, or as one that couldn't be
-- given
as_visit : {E : Type 0} (plan : Plan) (before after : OutState) (checked : Result CheckOutcome E)
    → MatchResult checked (λ outcome. IsCheckOfSample plan before after outcome) (λ _. after ≡ before)
    → (visits : List Event) × HaveNoFailure visits
    × MatchResult checked
    (λ outcome. IsVisitToCheck plan None sample_state (codes "sample") before after visits outcome) (λ _.
    HasRunOut sample_state (codes "sample") before after visits)
as_visit plan before after (Ok outcome) check =
    (visit_of (codes "sample") check.0, (check.1, tt), (check.0, refl, check.2))
as_visit plan before after (Err e) nothing = (NotGiven (codes "sample") ∷ [], tt, (nothing, inl refl))

pub returns : goal.returns
returns g c =
    let visit =
    as_visit c.args.plan.now (g.O.Out.state c.args.out.now) (g.O.Out.state c.check_sample.new.out) c.check_sample.result
    c.check_sample.ensures in (
      visit.0,
      visit.1,
      rw c.whole_status.ensures (only_one (λ name. IsLastCheck c.args.plan.now None sample_state name) (λ name.
          IsWholeCheck c.args.plan.now None sample_state name)
          (codes "sample") _ _ visit.0 (whole_status c.check_sample.result)
          (next_check c.args.plan.now None sample_state (codes "sample") _ _ visit.0 c.check_sample.result visit.2)),
    )
