-- What joining reports of parts does.
use Rattle.std.specs.Prelude.{ℕ, ◌≡◌, ◌≢◌, ◌⊎◌, List, [], ◌∷◌}
use Rattle.std.specs.Prelude.{Result, Ok, Err, IfErr, IfOk, MatchResult}
use Rattle.bag_tree.specs.Out.{OutState}
use Rattle.bag_join.specs.Findings.{AreWhole, Findings, IsReportOf}
use Rattle.bag_join.specs.Join.{IsJoined, IsLeft, IsSeenFirst}
use Rattle.bag_reports.specs.Input.{MayRefuse}
use Rattle.bag_reports.specs.Reports.{ReportsState, all_given}
use Rattle.bag_reports.specs.declared.refusal.Refusal.{Refusal}
use Rattle.bag_walk.specs.ExitStatus.{status}
use Rattle.bag_walk.specs.declared.outcome.Outcome.{Outcome}
use Rattle.bag_program.specs.Deeds.{Reported}
use Rattle.bag_program.specs.InTurn.{Deed}
use Rattle.bag_program.specs.Visits.{Event, Asked, Closed}

-- Reports were joined, and then what was read last are the whole reports of all parts of one check,
-- and the report of one check was written; or they weren't.
pub record IsJoin (old new : ReportsState) (before after : OutState)
    (joined : Result Outcome Refusal) : Type 0 where
  pub is_joined : IfOk joined (IsJoined (all_given new) before after)
  -- nothing was written where that was seen before
  pub untouched : IfErr joined (λ refusal. IsSeenFirst refusal.cause → after ≡ before)
  -- whole reports are joined, unless memory, a read or the output was refused
  pub whole : (findings : Findings) → AreWhole findings old
      → MatchResult joined (IsReportOf findings before after)
      (λ refusal. MayRefuse refusal.cause new after)
  -- and else no closing line was written
  pub left : IfErr joined (λ refusal. IsLeft refusal.cause before after)

-- the exit status: 3 where they weren't joined
abbrev pub join_status : Result Outcome Refusal → ℕ
join_status (Ok outcome) = status outcome
join_status (Err refusal) = 3

-- the reports at these paths were joined, or weren't, and left so
pub record IsJoinAt (reports : ReportsState) (paths : List (List ℕ)) (before after : OutState)
    (visits : List Event) (n : ℕ) : Type 0 where
  pub new : ReportsState
  pub joined : Result Outcome Refusal
  pub visits_are : visits ≡ Asked paths ∷ Closed new ∷ []
  pub join : IsJoin reports new before after joined
  pub status_is : n ≡ join_status joined

-- the reports at these paths were asked for, and joined or not; or memory for them ran out
abbrev pub AreJoined : Reported → List (List ℕ) → Deed
AreJoined reported paths before after visits n =
    ((n ≡ 3) × (after ≡ before) × (visits ≡ Asked paths ∷ []))
    ⊎ IsJoinAt (reported paths) paths before after visits n

-- The law: where the files at these paths are the whole reports of all parts of one check, in any
-- order, the report of one check is written, and its status given, unless memory, a read or a write
-- was refused.
abbrev pub HonestReportsAreJoined : Type 0
HonestReportsAreJoined =
    (reported : Reported) (paths : List (List ℕ)) (findings : Findings) (before after : OutState)
    (visits : List Event) (n : ℕ) → AreWhole findings (reported paths)
    → AreJoined reported paths before after visits n → n ≢ 3
    → (outcome : Outcome) × (n ≡ status outcome) × IsReportOf findings before after outcome

-- The law: where the status tells of a bag, just the report of one check was written, and what was
-- read last of the reports are its parts.
abbrev pub VerdictsAreJoined : Type 0
VerdictsAreJoined =
    (reported : Reported) (paths : List (List ℕ)) (before after : OutState)
    (visits : List Event) (n : ℕ) → AreJoined reported paths before after visits n → n ≢ 3
    → (new : ReportsState) × (outcome : Outcome) × (n ≡ status outcome)
    × IsJoined (all_given new) before after outcome
