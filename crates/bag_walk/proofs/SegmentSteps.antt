-- Segment after segment of a report.
use Rattle.bag_walk.proofs.Common.{◌≡◌, ◌≤◌, ◌+◌, ◌-◌, ◌++◌, ◌∷◌, inl, inr, ℕ, zero, suc, true, false, List, [], length}
use Rattle.bag_walk.proofs.Common.{take, drop, None, Some, refl, sym, ap, ◌∙◌, subst, arith, true≢false, append_assoc}
use Rattle.bag_walk.proofs.Common.{take-append-drop, length-drop, take-map, concat, IsStrictlySortedBy, Appends}
use Rattle.bag_walk.proofs.Common.{append_cancel_left, OutState, TreeState, Keeps, Stop, TreeFault, fault_cmp, Fault}
use Rattle.bag_walk.proofs.Common.{MayRefuseFacts, Options, keeps_itself, keeps_on, later_refusal, above, first, ended}
use Rattle.bag_walk.proofs.Common.{written, written_line, Outcome, Stopped, IsLastLine, IsLastOf, EndsSegment, IfUnread}
use Rattle.bag_walk.proofs.Common.{WroteFirst, AreCompared, OpensInSegment, cursor_after, SegmentsJoin, cost}
use Rattle.bag_walk.proofs.Common.{SegmentsFrom, AreSegments, WroteSegments, MayLose, IsStopped, RunsOfSegments}
use Rattle.bag_walk.proofs.Common.{is_last, outcome_at, MayStop, SegmentEnd, drop-map, drop-take, take-take, Option}
use Rattle.bag_walk.proofs.Common.{IsTrue, sum_by-cons, MayReportMemory, Profile, IsReport, Chain, Progress}
use Rattle.bag_walk.proofs.Common.{RunsInSegments, RunsSegment, before_segments, IsSegment, Segment, Unread}
use Rattle.bag_tree.proofs.Writing.{Appends-append, Appends-nil}
use Rattle.bag_walk.specs.declared.segment.SegmentEnd.TheVariants as end_of
use Rattle.bag_walk.proofs.Closed.{end_has_no_stop}
use Rattle.bag_walk.proofs.Passed.{passed_later}
use Rattle.bag_walk.proofs.RunLines.{concat_joined}
use Rattle.bag_sources.proofs.Positions.{above_none}
use Rattle.bag_sources.proofs.Places.{at_later, at_place, cursor_cuts_list}
use Rattle.bag_walk.proofs.SegmentOpenings.{OpenedSoFar, few_of, few_with_last, full_more, none_behind_last}
use Rattle.bag_walk.proofs.SegmentOpenings.{opened_none, unread_more}
use Rattle.bag_walk.specs.SegmentLaws.{ChainsAreSegments}

-- ---- what stands behind the first faults

-- what is above the last of the first n faults is the rest
pub above_behind : (n : ℕ) (report : List Fault) → IsStrictlySortedBy fault_cmp report → n ≤ length report
    → above (cursor_after n report) report ≡ drop n report
above_behind zero report sorted within = sym (above_none report)
above_behind (suc n) report sorted within =
    let at = at_place n report (omega arith) in
    let same : suc n ≡ n + 1 = omega arith in
    let cut : take (suc n) report ++ above (Some at.0) report ≡ report =
    subst (λ k. take k report ++ above (Some at.0) report ≡ report) (sym same)
    (cursor_cuts_list report n at.0 sorted at.1) in
    ap (λ cursor. above cursor report) at.1
    ∙ append_cancel_left (take (suc n) report) _ _ (cut ∙ sym (take-append-drop (suc n) report))

take_joined : {A : Type 0} (n m : ℕ) (xs : List A) → take n xs ++ take m (drop n xs) ≡ take (n + m) xs
take_joined n m xs =
    let within : n ≤ n + m =
    omega arith in rw (take-take n (n + m) xs within, drop-take n m xs) at (take-append-drop n (take (n + m) xs))

pub segments_join : SegmentsJoin
segments_join report n m sorted within =
    ap (λ rest. take n report ++ take m rest) (above_behind n report sorted within) ∙ take_joined n m report

-- the lines of the first faults, and those of the first of the rest
lines_joined : (n k : ℕ) (faults : List Fault)
    → concat (written (take n faults)) ++ concat (take k (written (drop n faults)))
    ≡ concat (take (n + k) (written faults))
lines_joined n k faults =
    rw (← take-map written_line n faults, ← drop-map written_line n faults)
    (sym (concat_joined (take n (written faults)) (take k (drop n (written faults))))
    ∙ ap concat (take_joined n k (written faults)))

-- the line of the last of the rest's first faults
pub last_later : (n k : ℕ) (report : List Fault) (old new : List ℕ) → IsLastLine (cursor_after n report) old
    → IsLastOf (drop n report) k old new → IsLastLine (cursor_after (n + k) report) new
last_later n zero report old new was same = grind arith
last_later n (suc k) report old new was (f, at, is) =
    let one_more : n + suc k ≡ suc (n + k) = omega arith in
    rw one_more (subst (λ last. IsLastLine last new) (sym (at_later n k report f at)) is)

-- ---- what was written

module _ (n k : ℕ) (report : List Fault) (began before after : OutState)
    (so : Appends began.taken before.taken (concat (written (first n report)))) where
  whole : Appends before.taken after.taken (concat (written (take k (drop n report))))
      → Appends began.taken after.taken (concat (written (first (n + k) report)))
  whole more =
      subst (Appends began.taken after.taken) (simp take-map at (lines_joined n k report))
      (Appends-append began.taken before.taken after.taken (concat (written (take n report))) _ so more)

  -- what a segment wrote after what others wrote
  pub wrote_on : (end : SegmentEnd) → WroteFirst (drop n report) k before after end
      → WroteSegments (n + k) report began after (outcome_at (n + k) end)
  wrote_on end_of.Full more = whole more
  wrote_on end_of.AtEnd more = grind (arith, whole)
  wrote_on (end_of.Unread stop) more = whole more
  wrote_on end_of.Unwritten (is, (bytes, (part, rest, at, some, all), taken)) = (
    is,
    (
      concat (written (take n report)) ++ bytes,
      (
        part,
        rest,
        at_later n k (written report) (part ++ rest) (rw (drop-map written_line n report) at),
        some,
        ap (λ b. concat (written (take n report)) ++ b) all
            ∙ sym (append_assoc (concat (written (take n report))) (concat (take k (written (drop n report)))) part)
            ∙ ap (λ b. b ++ part) (lines_joined n k report),
      ),
      Appends-append began.taken before.taken after.taken (concat (written (take n report))) bytes so taken,
    ),
  )

-- ---- why a segment stopped, by what the tree was before all of them and after

paid_by : (cause : TreeFault) (old new : TreeState) → old.failures ≤ new.failures → MayRefuseFacts old new cause
    → old.failures + cost cause ≤ new.failures
paid_by cause old new le h = grind arith

module _ (options : Options) (old mid next new : TreeState) (k : Keeps old mid) (l : Keeps next new) (stop : Stop) where
  -- a stop of one segment, as a stop of them all
  pub may_lose : MayStop options mid next stop → MayLose options old new stop
  may_lose h = grind (arith, later_refusal)

module _ (options : Options) (old mid new : TreeState) (k : Keeps old mid) (stop : Stop) where
  -- and one of the later segments
  lose_later : MayLose options mid new stop → MayLose options old new stop
  lose_later h = grind (arith, later_refusal)

-- the last segment's stop
stopped_at_last : (options : Options) (old new : TreeState) (n : ℕ) (end : SegmentEnd)
    → IfUnread end (MayStop options old new) → IsStopped options [] old new (outcome_at n end)
stopped_at_last options old new n end h = grind (arith, may_lose, keeps_itself, end_has_no_stop)

-- after which none follows
last_is_no_stop : (options : Options) (limits : List ℕ) (old new : TreeState) (n : ℕ) (end : SegmentEnd)
    → is_last end ≡ true → IsStopped options limits old new (outcome_at n end)
last_is_no_stop options limits old new n end last = grind (arith, end_has_no_stop)

-- and after one segment more
stopped_later : (options : Options) (m : ℕ) (limits : List ℕ) (old mid new : TreeState) (outcome : Outcome)
    → Keeps old mid → (m ≡ 0 → mid ≡ old)
    → IsStopped options limits mid new outcome → IsStopped options (m ∷ limits) old new outcome
stopped_later options m limits old mid new (Unread n stop) k same (lose, answer, memory) = (
  lose_later options old mid new k stop lose,
  answer,
  λ none is.
      let sums = sum_by-cons (λ (x : ℕ). x) m limits in
      subst (λ (s : TreeState). MayReportMemory s new) (same (omega (arith, none, sums)))
      (memory (omega (arith, none, sums)) is),
)
stopped_later options m limits old mid new other k same h = tt

module _ (profile : Option Profile) (options : Options) where
  stops_from : (m : ℕ) (limits : List ℕ) (old last : Progress) → Chain profile options (m ∷ limits) old last
      → IsStopped options (take (length limits) (m ∷ limits)) old.tree last.tree last.outcome
  stops_from m limits old last (mid, run, inl (ends, same)) =
      subst (λ (p : Progress). IsStopped options (take (length limits) (m ∷ limits)) old.tree p.tree p.outcome)
      (sym same)
      (rw run.ends (last_is_no_stop options (take (length limits) (m ∷ limits)) old.tree mid.tree mid.count
      run.segment.end ends))
  stops_from m [] old last (mid, run, inr (goes, same)) =
      subst (λ (p : Progress). IsStopped options [] old.tree p.tree p.outcome) (sym same)
      (rw run.ends (stopped_at_last options old.tree mid.tree mid.count run.segment.end run.stop))
  stops_from m (next ∷ limits) old last (mid, run, inr (goes, chain)) =
      stopped_later options m (take (length limits) (next ∷ limits)) old.tree mid.tree last.tree last.outcome run.keeps
      run.untouched (stops_from next limits mid last chain)

  pub chain_stops : (limits : List ℕ) (old new : TreeState) (before after : OutState) (outcome : Outcome)
      → RunsInSegments old new profile options limits before after outcome
      → IsStopped options (take (length limits - 1) limits) old new outcome
  chain_stops [] old new before after outcome (count, same) =
      subst (λ (p : Progress). IsStopped options [] old p.tree p.outcome) (sym same) tt
  chain_stops (m ∷ limits) old new before after outcome (count, chain) =
      let one_less : length (m ∷ limits) - 1 ≡ length limits =
      omega arith in rw one_less
      (stops_from m limits (before_segments old before)
      (record { tree = new; out = after; count = count; outcome = outcome }) chain)

-- ---- segment after segment

-- the segments of the first limits, after which the rest follows
record SoFar (options : Options) (report : List Fault) (limits rest : List ℕ) (i : ℕ) (old now : TreeState) (count : ℕ)
    (before after : OutState) (outcome : Outcome) : Type 0 where
  pub lost : ℕ
  pub unread : ℕ
  pub few_lost : old.failures + lost ≤ now.failures
  pub gone : i + length rest ≡ length limits
  pub kept : Keeps old now
  pub within : count ≤ length report
  pub wrote : Appends before.taken after.taken (concat (written (first count report)))
  pub shown : WroteSegments count report before after outcome
  pub follows : (new : TreeState) → Keeps now new → (u r n : ℕ) (last : Outcome)
      → SegmentsFrom report (MayLose options old new) lost unread count outcome rest u r n last
      → AreSegments report (MayLose options old new) limits u r n last
  pub opens : (listed : List (List ℕ)) → AreCompared options old.bag listed
      → OpenedSoFar listed i unread (cursor_after count report) old now

so_far_none : (options : Options) (report : List Fault) (limits : List ℕ) (old : TreeState) (before : OutState)
    → SoFar options report limits limits 0 old old 0 before before (Stopped 0)
so_far_none options report limits old before = record {
  lost = 0;
  unread = 0;
  few_lost = omega arith;
  gone = omega arith;
  kept = keeps_itself old;
  within = omega arith;
  wrote = Appends-nil before.taken;
  shown = Appends-nil before.taken;
  follows = λ new k u r n last rest. rest;
  opens = λ listed are. opened_none listed old;
}

module _ {options : Options} {report : List Fault} {limits : List ℕ} {i : ℕ} {old : TreeState} {before : OutState}
    (sorted : IsStrictlySortedBy fault_cmp report) where
  -- no limit is left
  all_segments : {now : TreeState} {count : ℕ} {after : OutState} {outcome : Outcome}
      → SoFar options report limits [] i old now count before after outcome
      → RunsOfSegments options report limits old now before after outcome
  all_segments {now} {count} {after} {outcome} so = record {
    lost = so.lost;
    unread = so.unread;
    count = count;
    segments = so.follows now (keeps_itself now) so.lost so.unread count outcome (refl, refl, refl, refl);
    few_lost = so.few_lost;
    wrote = so.shown;
    opens = λ listed are.
        few_of listed i so.unread (length limits) (cursor_after count report) old now (so.opens listed are)
        (omega (arith, so.gone));
  }

  module _ {m : ℕ} {rest : List ℕ} {now new : TreeState} {count : ℕ} {after : OutState} {outcome : Outcome}
      (so : SoFar options report limits (m ∷ rest) i old now count before after outcome) (then : OutState)
      (segment : Segment) (keeps : Keeps now new) (untouched : m ≡ 0 → new ≡ now)
      (front : (listed : List (List ℕ)) → AreCompared options old.bag listed
      → OpensInSegment listed report count segment now new) where
    abbrev k : ℕ
    k = segment.written

    left : length (drop count report) ≡ length report - count
    left = length-drop count report

    -- one segment more, after which others follow
    one_segment_more : (end : SegmentEnd) → segment.end ≡ end → is_last end ≡ false
        → EndsSegment (drop count report) m k end → WroteFirst (drop count report) k after then end
        → IfUnread end (MayStop options now new)
        → SoFar options report limits rest (i + 1) old new (count + k) before then (outcome_at (count + k) end)
    one_segment_more end_of.Full is goes ends wrote stops = record {
      lost = so.lost;
      unread = so.unread;
      few_lost = omega (arith, so.few_lost, keeps.failures);
      gone = omega (arith, so.gone);
      kept = keeps_on old now new so.kept keeps;
      within = omega (arith, ends.1, left, so.within);
      wrote = whole count k report before after then so.wrote wrote;
      shown = whole count k report before after then so.wrote wrote;
      follows = λ end keep u r n last others.
          let P : ℕ → Type 0 = λ w.
          SegmentsFrom report (MayLose options old end) so.lost so.unread (count + w) (Stopped (count + w)) rest u r
          n last in
          so.follows end (keeps_on now new end keeps keep) u r n last
          (inl (omega (arith, ends.0, ends.1, left), subst P ends.0 others));
      opens = λ listed are.
          full_more listed report count i so.unread segment (so.opens listed are) (front listed are)
          (cursor_after (count + k) report) are.ascending
          (passed_later count k report sorted (omega (arith, ends.1, left, so.within)))
          (none_behind_last m count report segment ends is (front listed are) untouched);
    }
    one_segment_more (end_of.Unread stop) is goes ends wrote stops =
        let paid : now.failures + cost stop.cause ≤ new.failures =
        paid_by stop.cause now new keeps.failures stops.cause in record {
          lost = so.lost + cost stop.cause;
          unread = so.unread + 1;
          few_lost = omega (arith, so.few_lost, paid);
          gone = omega (arith, so.gone);
          kept = keeps_on old now new so.kept keeps;
          within = omega (arith, ends.1, left, so.within);
          wrote = whole count k report before after then so.wrote wrote;
          shown = whole count k report before after then so.wrote wrote;
          follows = λ end keep u r n last others.
              so.follows end (keeps_on now new end keeps keep) u r n last
              (inr (inr (inl (
                k,
                stop,
                ends.0,
                omega (arith, ends.1, left, so.within),
                may_lose options old now new end so.kept keep stop stops,
                others,
              ))));
          opens = λ listed are.
              unread_more listed report count i so.unread segment (so.opens listed are) (front listed are)
              (cursor_after (count + k) report);
        }
    one_segment_more other is goes ends wrote stops = absurd (true≢false goes)

    -- and one after which none follows
    none_follows : (end : SegmentEnd) → is_last end ≡ true → EndsSegment (drop count report) m k end
        → SegmentsFrom report (MayLose options old new) so.lost so.unread count outcome (m ∷ rest)
        so.lost so.unread (count + k) (outcome_at (count + k) end)
    none_follows end_of.AtEnd ends_all ends =
        let all : count + k ≡ length report = omega (arith, ends.1, left, so.within) in
        inr (inl (omega (arith, ends.0, ends.1, left), refl, refl, all, ap (ended None) all))
    none_follows end_of.Unwritten ends_all ends =
        inr (inr (inr (k, ends.0, omega (arith, ends.1, left), refl, refl, refl, refl)))
    none_follows other ends_all ends = absurd (true≢false (sym ends_all))

    last_segment : (end : SegmentEnd) → is_last end ≡ true → EndsSegment (drop count report) m k end
        → WroteFirst (drop count report) k after then end
        → RunsOfSegments options report limits old new before then (outcome_at (count + k) end)
    last_segment end ends_all ends wrote = record {
      lost = so.lost;
      unread = so.unread;
      count = count + k;
      segments = so.follows new keeps so.lost so.unread (count + k) _ (none_follows end ends_all ends);
      few_lost = omega (arith, so.few_lost, keeps.failures);
      wrote = wrote_on count k report before after then so.wrote end wrote;
      opens = λ listed are.
          few_with_last listed report count i so.unread segment (so.opens listed are) (front listed are) (length limits)
          (omega (arith, so.gone));
    }

-- ---- a chain of segments

module _ (profile : Option Profile) {options : Options} {report : List Fault} (limits : List ℕ) (old : TreeState)
    (before : OutState) (honest : IsTrue old.honest)
    (is : IsReport (record { bag = old.bag; profile = profile; options = options }) report) where
  module _ {m : ℕ} {rest : List ℕ} {i : ℕ} (now mid : Progress)
      (so : SoFar options report limits (m ∷ rest) i old now.tree now.count before now.out now.outcome)
      (run : RunsSegment profile options m now mid) where
    segment_next : IsSegment (drop now.count report) m now.out mid.out run.segment
    segment_next = run.next (so.kept.honest ∙ honest) report (rw so.kept.bag is)

    opens_next : (listed : List (List ℕ)) → AreCompared options old.bag listed
        → OpensInSegment listed report now.count run.segment now.tree mid.tree
    opens_next listed are = run.opens (so.kept.honest ∙ honest) report (rw so.kept.bag is) listed (rw so.kept.bag are)

    more_next : is_last run.segment.end ≡ false
        → SoFar options report limits rest (i + 1) old mid.tree mid.count before mid.out mid.outcome
    more_next goes =
        rw (run.ends, run.counts)
        (one_segment_more is.ascending so mid.out run.segment run.keeps run.untouched opens_next run.segment.end refl
        goes segment_next.ends segment_next.wrote run.stop)

    none_next : is_last run.segment.end ≡ true
        → RunsOfSegments options report limits old mid.tree before mid.out mid.outcome
    none_next ends =
        rw (run.ends, run.counts)
        (last_segment is.ascending so mid.out run.segment run.keeps run.untouched opens_next run.segment.end ends
        segment_next.ends segment_next.wrote)

  segments_from : (rest : List ℕ) (i : ℕ) (now last : Progress)
      → SoFar options report limits rest i old now.tree now.count before now.out now.outcome
      → Chain profile options rest now last
      → RunsOfSegments options report limits old last.tree before last.out last.outcome
  segments_from [] i now last so same =
      subst (λ (p : Progress). RunsOfSegments options report limits old p.tree before p.out p.outcome) (sym same)
      (all_segments is.ascending so)
  segments_from (m ∷ rest) i now last so (mid, run, inl (ends, same)) =
      subst (λ (p : Progress). RunsOfSegments options report limits old p.tree before p.out p.outcome) (sym same)
      (none_next now mid so run ends)
  segments_from (m ∷ rest) i now last so (mid, run, inr (goes, chain)) =
      segments_from rest (i + 1) mid last (more_next now mid so run goes) chain

pub chains_are_segments : ChainsAreSegments
chains_are_segments profile options limits old new before after outcome runs = record {
  stop = chain_stops profile options limits old new before after outcome runs;
  segments = λ honest report is.
      segments_from profile limits old before honest is limits 0 (before_segments old before)
      (record { tree = new; out = after; count = runs.0; outcome = outcome })
      (so_far_none options report limits old before) runs.1;
}
