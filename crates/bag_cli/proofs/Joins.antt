-- Reports that were joined, or weren't.
use Rattle.bag_cli.proofs.Common.{◌≡◌, ◌≢◌, ℕ, Result, Ok, Err, IsJoin, OutState, Outcome, Refusal, ReportsState}
use Rattle.bag_cli.proofs.Common.{join_status, status}
use Rattle.bag_join.specs.Findings.{AreWhole, Findings, IsReportOf}
use Rattle.bag_join.specs.Join.{IsJoined}
use Rattle.bag_reports.specs.Reports.{all_given}

module _ (old new : ReportsState) (before after : OutState) (n : ℕ) where
  -- whole reports
  pub whole_joined : (findings : Findings) (joined : Result Outcome Refusal) → AreWhole findings old
      → IsJoin old new before after joined → n ≡ join_status joined → n ≢ 3
      → (outcome : Outcome) × (n ≡ status outcome) × IsReportOf findings before after outcome
  whole_joined findings (Ok outcome) whole join is no_failure = (outcome, is, join.whole findings whole)
  whole_joined findings (Err refusal) whole join is no_failure = absurd (no_failure is)

  -- any reports
  pub verdict_joined : (joined : Result Outcome Refusal) → IsJoin old new before after joined → n ≡ join_status joined
      → n ≢ 3 → (outcome : Outcome) × (n ≡ status outcome) × IsJoined (all_given new) before after outcome
  verdict_joined (Ok outcome) join is no_failure = (outcome, is, join.is_joined)
  verdict_joined (Err refusal) join is no_failure = absurd (no_failure is)
