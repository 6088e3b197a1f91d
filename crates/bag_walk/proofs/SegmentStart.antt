-- A segment over a walk that was started after others.
use Rattle.bag_walk.proofs.Common.{arith, ◌≡◌, ◌≤◌, ℕ, List, length, drop, filter, Option, IsTrue, sym, ap, ◌∙◌}
use Rattle.bag_walk.proofs.Common.{subst, nat_list_cmp_total, is_payload_path, text_cmp, one_list, OutState, Bag}
use Rattle.bag_walk.proofs.Common.{TreeState, Keeps, Fault, OpensWanted, Options, Profile, Check, IsReport, above}
use Rattle.bag_walk.proofs.Common.{OpensAgain, OpensNoFileEarly, Sees, IsListedToOpen, IsLastLine, IsLastOf}
use Rattle.bag_walk.proofs.Common.{IsSegment, still_to_come, AreCompared, OpensInSegment, not_passed, cursor_after}
use Rattle.bag_walk.proofs.Common.{ContinuesReport, Segment}
use Rattle.bag_walk.proofs.PartRuns.{left_of, sees_of}
use Rattle.bag_sources.proofs.Stages.{payload_to_open}
use Rattle.bag_walk.proofs.WholeRun.{all_of_it}
use Rattle.bag_sources.proofs.Within.{all_to_open}
use Rattle.bag_sources.specs.Parts.{only_part}
use Rattle.bag_sources.specs.StartPart.{IsPartStarted}
use Rattle.bag_walk.proofs.SegmentOpenings.{not_passed_listed, opens_front}
use Rattle.bag_walk.proofs.SegmentSteps.{above_behind, last_later}

module _ {old mid : TreeState}
    (new : TreeState) {profile : Option Profile} {options : Options} {after : Option Fault} {IsOf : Bag → Type 0}
    {left : Bag → List Fault} {todo : List (List ℕ)} (started : IsPartStarted old profile options after only_part IsOf left todo)
    (k : Keeps old mid) where
  module _ (honest : IsTrue old.honest) (report : List Fault)
      (is : IsReport (record { bag = old.bag; profile = profile; options = options }) report) (n : ℕ)
      (within : n ≤ length report)
      (behind : after ≡ cursor_after n report) where
    -- what is left is the rest of the report
    left_behind : left started.seen ≡ drop n report
    left_behind =
        left_of new started k report
        (subst (λ bag. IsReport (record { bag = bag; profile = profile; options = options }) report)
        (sym (started.honest honest)) is) started.listing started.listed
        ∙ all_of_it started.listing (above after report)
        ∙ ap (λ cursor. above cursor report) behind ∙ above_behind n report is.ascending within

    pub goes_on : (limit : ℕ) (before then : OutState) (line next : List ℕ) (segment : Segment)
        → IsLastLine (cursor_after n report) line
        → ((bag : Bag) → IsOf bag → Sees mid todo bag → IsSegment (left bag) limit before then segment)
        → ((bag : Bag) → IsOf bag → Sees mid todo bag → IsLastOf (left bag) segment.written line next)
        → ContinuesReport report n limit before then next segment
    goes_on limit before then line next segment was seen last = grind (arith, sees_of, left_behind, last_later)

    abbrev check_seen : Check
    check_seen = record { bag = started.seen; profile = profile; options = options }

    -- of the payload those files are still to be opened that are listed and that the cursor hasn't passed
    payload_left : (listed : List (List ℕ)) → AreCompared options old.bag listed
        → filter is_payload_path todo ≡ not_passed (cursor_after n report) listed
    payload_left listed are =
        one_list text_cmp nat_list_cmp_total (IsListedToOpen check_seen after) (filter is_payload_path todo)
        (not_passed after listed) (payload_to_open check_seen after todo (all_to_open check_seen after todo started.files))
        (not_passed_listed check_seen after listed
        (subst (λ bag. AreCompared options bag listed) (sym (started.honest honest)) are))
        ∙ ap (λ cursor. not_passed cursor listed) behind

    pub opens_behind : OpensWanted options old mid → (others : List (List ℕ)) → OpensAgain todo others mid new
        → (segment : Segment)
        → ((bag : Bag) → IsOf bag → Sees mid todo bag → OpensNoFileEarly (still_to_come segment (left bag)) mid new)
        → (listed : List (List ℕ)) → AreCompared options old.bag listed → OpensInSegment listed report n segment old new
    opens_behind read others again segment none listed are =
        let sees = sees_of new started k honest in
        let b =
        subst (λ faults. OpensNoFileEarly (still_to_come segment faults) mid new) left_behind
        (none started.seen started.of sees) in
        opens_front old mid new options todo others read again listed report n segment b (payload_left listed are)
