-- A run is the run over the part 1 of 1.
use Rattle.bag_walk.proofs.Common.{◌≡◌, ◌⊎◌, ◌∷◌, ◌∙◌, ℕ, inl, inr, refl, sym, ap, subst, arith, List, [], Option}
use Rattle.bag_walk.proofs.Common.{IsTrue, false, ◌≢◌, ◌<◌, ◌++◌, true, true≢false, filter, drop, min, take, ◌-◌}
use Rattle.bag_walk.proofs.Common.{append_cancel_left, All-filter, all_along, each_from_members, same_members}
use Rattle.bag_walk.proofs.Common.{is_payload_path, fault_cmp, length-take-le, take_all, Bag, IsBag, IsSummed}
use Rattle.bag_walk.proofs.Common.{NothingFailed, OutState, Stop, TreeState, Fault, FileEntry, Profile}
use Rattle.bag_walk.proofs.Common.{above, stage, NoFaultBefore, is_passed, limit_of, IsAsked, check_of, IsRun}
use Rattle.bag_walk.proofs.Common.{IsHonestOrReadOnce, LooksNoFurther, OpensInRun, OpensInTurn, OpensNonePassed}
use Rattle.bag_walk.proofs.Common.{OpensUpToSummed, StopsInTurn, written_before, Outcome, Request, count_of}
use Rattle.bag_walk.proofs.Common.{ClosesSegment, IfRunUnread, IfUnread, IsRead, IsSegment, MayStop, Segment}
use Rattle.bag_walk.proofs.Common.{SegmentEnd, StopsAt, looked_past, still_to_come, ForListing, OpensUpTo}
use Rattle.bag_sources.proofs.Chosen.{full_or_not}
use Rattle.bag_walk.proofs.OneList.{bag_is_listed}
use Rattle.bag_walk.proofs.Openings.{payload_of}
use Rattle.bag_walk.proofs.Running.{looked_before, stopped_when, wider_end}
use Rattle.bag_walk.proofs.Shown.{AreAsked, above_report, front_is_first}
use Rattle.bag_sources.proofs.Within.{all_to_open}
use Rattle.bag_report.proofs.EachReport.{each_bag_has_a_report}
use Rattle.bag_walk.specs.PartRuns.{ForPart, LooksNoFurtherInPart, OpensInPart, OpensPartUpTo, StopsInPartInTurn, WritesPart}
use Rattle.bag_sources.specs.Parts.{AreFilesIn, only_part, part_of}
use Rattle.bag_walk.specs.Run.{ForReportAsked}
use Rattle.bag_walk.specs.declared.segment.SegmentEnd.TheVariants.{Unread}

-- all faults stand in that part
pub all_of_it : (files : List FileEntry) (faults : List Fault) → part_of files only_part faults ≡ faults
all_of_it files [] = refl
all_of_it files (f ∷ faults) = ap (λ rest. f ∷ rest) (all_of_it files faults)

if_unread : (end : SegmentEnd) (P Q : Stop → Type 0) → ((stop : Stop) → P stop → Q stop) → IfUnread end P → IfUnread end Q
if_unread (Unread stop) P Q more p = more stop p
if_unread other P Q more p = tt

module _ (old new : TreeState) (is_bag : IsBag old.bag) (profile : Option Profile) (request : Request) where
  -- the files of the bag
  abbrev listed : (files : List FileEntry) × AreFilesIn old.bag files
  listed = bag_is_listed old.bag is_bag

  for_whole : (Holds : List Fault → Type 0) → ForPart old profile request only_part Holds
      → ForReportAsked old profile request (λ report. Holds (above request.after report))
  for_whole Holds holds honest report is =
      subst Holds (all_of_it listed.0 (above request.after report)) (holds honest report is listed.0 listed.1)

  module _ {segment : Segment} (opens : OpensInPart profile request only_part segment old new) where
    pub opens_in_run : OpensInRun request.options old new
    opens_in_run = record {
      read = opens.read;
      summed = opens.summed;
      opened = opens.opened;
      read_in_order = opens.read_in_order;
      wanted = opens.wanted;
      summed_in_order = opens.summed_in_order;
      only_at_full = opens.only_at_full;
      are_summed = λ honest. all_along (IsSummed old.bag) opens.summed
          (each_from_members _ opens.summed (λ path c. (opens.of_part honest listed.0 listed.1 path c).0.1));
    }

    pub opens_none_passed : OpensNonePassed request.after old new
    opens_none_passed opened e =
        rw (ap (filter is_payload_path)
        (append_cancel_left old.openings opened (opens.read ++ opens.summed) (sym e ∙ opens.opened))
        ∙ payload_of request.options opens.read opens.summed opens.wanted)
        (All-filter is_payload_path (λ path. is_passed request.after path ≡ false) opens.summed opens.none_passed)

    pub opens_in_turn : (outcome : Outcome) (faults : List Fault) {before lines : OutState}
        → count_of outcome ≡ segment.written → IsSegment faults (limit_of request) before lines segment
        → OpensInTurn old new profile request outcome
    opens_in_turn outcome faults count wrote honest report is =
        let turn = for_whole (λ faults. NoFaultBefore (still_to_come segment faults) opens.summed) opens.in_turn honest
        report is in
        let past : written_before request outcome ≡ looked_past segment.end segment.written =
        ap (λ n. min n (limit_of request - 1)) count
        ∙ looked_before faults (limit_of request) segment.written segment.end wrote.ends in
        (opens.read, opens.summed, opens.opened, opens.read_in_order, opens.wanted, rw past turn)

  up_to_summed : (n : ℕ) (path : List ℕ) → OpensPartUpTo profile request only_part n path old new
      → OpensUpToSummed old new profile request n path
  up_to_summed n path (todo, opens, are, written) = (
    todo,
    opens,
    λ honest. all_to_open (check_of old.bag profile request) request.after todo (are honest listed.0 listed.1),
    for_whole (λ faults. NoFaultBefore (drop n faults) (path ∷ [])) written,
  )

  pub stops_in_turn : (segment : Segment) (outcome : Outcome) → count_of outcome ≡ segment.written
      → IfRunUnread outcome (StopsAt segment) → StopsInPartInTurn profile request only_part segment old new
      → StopsInTurn old new profile request outcome
  stops_in_turn segment outcome count is stopped =
      let Waits : ℕ → Stop → Type 0 = λ n stop. stop.path ≢ []
      → ForListing old (λ files. OpensUpTo request.options files stop.path old new)
      ⊎ OpensUpToSummed old new profile request n stop.path in
      stopped_when Waits segment outcome count is
      (if_unread segment.end _ (Waits segment.written)
      (λ stop h some. elim (h some) [ inl read ↦ inl read | inr up ↦ inr (up_to_summed segment.written stop.path up) ])
      stopped)

  pub looks_no_further : LooksNoFurtherInPart profile request only_part old new → LooksNoFurther old new profile request
  looks_no_further unlooked honest early list enough =
      let IsOne : Fault → Type 0 = IsAsked old.bag profile request in
      unlooked honest listed.0 listed.1 early
      (same_members fault_cmp (λ f. IsOne f × (stage f.code < 7))
      (λ f. (IsOne f × (true ≡ true)) × (stage f.code < 7)) early
      (λ f h. ((h.0, refl), h.1)) (λ f h. (h.0.0, h.1)) list)
      enough

-- what a segment of the report writes, with its closing line
module _ {old new : TreeState} {profile : Option Profile} {request : Request} {before lines after : OutState}
    {segment : Segment} {outcome : Outcome}
    (closes : (faults : List Fault) → IsSegment faults (limit_of request) before lines segment
    → ClosesSegment request faults segment before after outcome)
    (of : WritesPart old profile request only_part before lines segment)
    (no_failure : IsRead segment.end → NothingFailed old new)
    (plain : IsRead segment.end → 0 < limit_of request → IsTrue old.honest → IsTrue old.plain)
    (stop : IfUnread segment.end (MayStop request.options old new)) where
  run_of : (faults : List Fault)
      → (IsHonestOrReadOnce old request → AreAsked of.seen profile request faults)
      → IsSegment faults (limit_of request) before lines segment → IsRun old new profile request before after outcome
  run_of faults asked is = let (w, read) = closes faults is in record {
    seen = of.seen;
    is_bag = of.is_bag;
    honest = of.honest;
    shown = take w.count faults;
    ending = w.ending;
    may_end = rw (length-take-le w.count faults w.within)
        (wider_end request w.count _ (MayStop request.options old new) w.ending
        (λ stopped at. subst (λ end. IfUnread end (MayStop request.options old new)) at stop) w.may_end);
    no_failure = λ answered. no_failure (read answered);
    plain = λ honest answered some. plain (read answered) some honest;
    wrote = w.wrote;
    faults = λ one. front_is_first (IsAsked of.seen profile request) w.count faults (asked one);
    all_shown = λ one reached f has.
        rw (take_all w.count faults (omega (arith, w.all reached))) (((asked one).members f).1 has);
  }

  of_report : IsHonestOrReadOnce old request → IsRun old new profile request before after outcome
  of_report one =
      let (report, is) = each_bag_has_a_report (check_of of.seen profile request) in
      let (files, are) = bag_is_listed of.seen of.is_bag in
      run_of (above request.after report) (λ one. above_report of.seen profile request report is)
      (subst (λ faults. IsSegment faults (limit_of request) before lines segment)
      (all_of_it files (above request.after report)) (of.faults one report is files are))

  one_or_more : IsHonestOrReadOnce old request ⊎ (IsHonestOrReadOnce old request → ⊥)
  one_or_more = grind (arith, full_or_not, true≢false)

  pub whole_run : ((faults : List Fault) × IsSegment faults (limit_of request) before lines segment)
      → IsRun old new profile request before after outcome
  whole_run unseen = elim one_or_more [
    | inl one ↦ of_report one
    | inr more ↦ run_of unseen.0 (λ one. absurd (more one)) unseen.1
  ]
