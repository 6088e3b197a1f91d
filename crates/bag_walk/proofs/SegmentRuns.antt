-- The segment of one limit as a run of its own, and what a chain of segments gains by it.
use Rattle.bag_walk.proofs.Common.{◌≡◌, ◌≤◌, ◌+◌, ◌∙◌, ◌∷◌, inl, inr, ℕ, List, Option, length, drop, true, false}
use Rattle.bag_walk.proofs.Common.{refl, sym, arith, length-drop, OutState, NothingFailed, TreeState, Keeps, Fault}
use Rattle.bag_walk.proofs.Common.{Options, Profile, IsLastLine, IsRead, IfUnread, EndsSegment, IsSegment, AreCompared}
use Rattle.bag_walk.proofs.Common.{OpensInSegment, ForReport, ForReportFrom, ContinuesReport, MayStop, Outcome, Chain}
use Rattle.bag_walk.proofs.Common.{Progress, RunsSegment, Segment, SegmentEnd, cursor_after, is_last, outcome_at}

written_within : (faults : List Fault) (limit n : ℕ) (end : SegmentEnd) → EndsSegment faults limit n end
    → n ≤ length faults
written_within faults limit n end e = grind arith

-- how far a report was written, and that the line is of the last of these faults
abbrev pub IsWrittenTo : ℕ → List ℕ → List Fault → Type 0
IsWrittenTo n line report = (n ≤ length report) × IsLastLine (cursor_after n report) line

module _ (profile : Option Profile) (options : Options) {start now : TreeState} (kept : Keeps start now) (n : ℕ)
    (line : List ℕ)
    (so : ForReport start profile options (IsWrittenTo n line)) where
  -- what is so after the faults up to the line's is so after the first n
  from_here : (Holds : List Fault → ℕ → Type 0) → ForReportFrom now profile options line Holds
      → ForReport now profile options (λ report. Holds report n)
  from_here Holds holds = λ honest report is.
      let at = so (sym kept.honest ∙ honest) report (rw (← kept.bag) is) in
      holds honest report is n at.0 at.1

  module _ {limit : ℕ} {before after : OutState} {next : List ℕ} (segment : Segment)
      (goes : ForReportFrom now profile options line
      (λ report n. ContinuesReport report n limit before after next segment)) where
    -- and then the report was written so far
    pub written_on : ForReport start profile options (IsWrittenTo (n + segment.written) next)
    written_on = λ honest report is.
        let at = so honest report is in
        let on = goes (kept.honest ∙ honest) report (rw kept.bag is) n at.0 at.1 in
        let some = written_within (drop n report) limit segment.written segment.end on.writes.ends in
        (omega (arith, some, length-drop n report, at.0), on.last)

    module _ (new : TreeState) (outcome : Outcome) (keeps : Keeps now new)
        (no_failure : IsRead segment.end → NothingFailed now new) (untouched : limit ≡ 0 → new ≡ now)
        (stop : IfUnread segment.end (MayStop options now new))
        (unseen : (faults : List Fault) × IsSegment faults limit before after segment)
        (opens : ForReportFrom now profile options line
        (λ report n. (listed : List (List ℕ)) → AreCompared options now.bag listed
        → OpensInSegment listed report n segment now new)) where
      abbrev from_now : Progress
      from_now = record { tree = now; out = before; count = n; outcome = outcome }

      abbrev to_new : Progress
      to_new =
          record {
            tree = new;
            out = after;
            count = n + segment.written;
            outcome = outcome_at (n + segment.written) segment.end;
          }

      abbrev run : RunsSegment profile options limit from_now to_new
      run = record {
        segment = segment;
        counts = refl;
        ends = refl;
        keeps = keeps;
        untouched = untouched;
        no_failure = no_failure;
        stop = stop;
        wrote = unseen;
        next = λ honest report is.
            (from_here (λ report n. ContinuesReport report n limit before after next segment) goes honest report
            is).writes;
        opens =
            from_here (λ report n. (listed : List (List ℕ)) → AreCompared options now.bag listed
            → OpensInSegment listed report n segment now new) opens;
      }

      -- others follow
      pub chain_goes_on : (limits : List ℕ) (last : Progress) → is_last segment.end ≡ false
          → Chain profile options limits to_new last
          → Chain profile options (limit ∷ limits) from_now last
      chain_goes_on limits last goes others = (to_new, run, inr (goes, others))

      -- or none
      pub chain_ends : (limits : List ℕ) → is_last segment.end ≡ true
          → Chain profile options (limit ∷ limits) from_now to_new
      chain_ends limits ends = (to_new, run, inl (ends, refl))
