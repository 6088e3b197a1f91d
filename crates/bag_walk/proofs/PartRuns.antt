-- A run over a part of a report.
use Rattle.bag_walk.proofs.Common.{◌≡◌, ◌≢◌, ◌<◌, ◌++◌, ◌∙◌, ◌∷◌, ◌⊎◌, inl, inr, ℕ, true, List, [], Contains, IsTrue}
use Rattle.bag_walk.proofs.Common.{sym, ap, subst, arith, drop, append_assoc, append-nil, Option, is_path, text_cmp}
use Rattle.bag_walk.proofs.Common.{contains_back, contains_first, contains_nothing, one_list, Bag, TreeState, Keeps}
use Rattle.bag_walk.proofs.Common.{NothingFailed, memory_then, later_refusal, path_some, OutState, stage, fault_cmp}
use Rattle.bag_walk.proofs.Common.{fault_cmp_total, filtered_list, append_cancel_left, Fault, FileEntry, AreWanted}
use Rattle.bag_walk.proofs.Common.{ForListing, Full, OpensAll, OpensUpTo, Options, OpensWanted, Profile, IsReport}
use Rattle.bag_walk.proofs.Common.{IsSummed, above, IsAsked, IsListOf, IsRefusedAmong, OpensAgain, Sees, MayStopRun}
use Rattle.bag_walk.proofs.Common.{MayStop, IfUnread, IsSegment, Segment, SegmentEnd, front_ascends, limit_of}
use Rattle.bag_walk.proofs.Common.{IsToOpen, NoFaultBefore, NoFaultBeforeStop, OpensNoFileEarly, Request, check_of}
use Rattle.bag_walk.proofs.Common.{EndsSegment, IsRefusedAt, still_to_come, looked_past, false, refl, All-nil}
use Rattle.bag_walk.proofs.Common.{all_along, each_from_members, is_passed, IsBag, None}
use Rattle.std.specs.List.Sorted.{IsStrictlySortedBy}
use Rattle.bag_faults.specs.Part.{Part}
use Rattle.bag_sources.proofs.Filling.{again_within, opened_front}
use Rattle.bag_walk.proofs.OneList.{one_list_of_files}
use Rattle.bag_walk.proofs.Openings.{early_at, none_of}
use Rattle.bag_walk.proofs.Running.{memory_may_stop}
use Rattle.bag_walk.proofs.Shown.{above_report}
use Rattle.bag_walk.specs.PartRuns.{ForPart, LooksNoFurtherInPart, OpensInPart, OpensPartUpTo, WritesPart}
use Rattle.bag_sources.specs.Parts.{AreFilesIn, bounds_of, is_file_within, is_within, part_of}
use Rattle.bag_sources.specs.StartPart.{AreToOpenWithin, IsPartStarted, IsWithin}
use Rattle.bag_sources.specs.declared.part.Bounds.{Bounds}
use Rattle.bag_walk.specs.declared.segment.SegmentEnd.TheVariants.{AtEnd, Full as IsFull, Unread, Unwritten}

-- a request for the faults above a cursor
abbrev pub asking_of : Options → Option Fault → Request
asking_of options after = record { options = options; after = after; limit = None; quiet = true; name = [] }

-- tag files alone were read
pub part_reads : (profile : Option Profile) (request : Request) (part : Part) (segment : Segment)
    (old new : TreeState) → OpensWanted request.options old new → OpensInPart profile request part segment old new
unfolding IsStrictlySortedBy
part_reads profile request part segment old new (paths, opened, ascending, wanted) = record {
  read = paths;
  summed = [];
  opened = opened ∙ ap (λ l. old.openings ++ l) (sym (append-nil paths));
  read_in_order = ascending;
  wanted = wanted;
  summed_in_order = tt;
  only_at_full = λ below. refl;
  none_passed = All-nil (λ path. is_passed request.after path ≡ false);
  of_part = λ honest files are path c. absurd (contains_nothing path c);
  in_turn = λ honest report is files are f path c d. absurd (contains_nothing path d);
}

module _ {old mid : TreeState} (new : TreeState) {profile : Option Profile} {options : Options}
    {after : Option Fault} {part : Part} {IsOf : Bag → Type 0} {left : Bag → List Fault} {todo : List (List ℕ)}
    (started : IsPartStarted old profile options after part IsOf left todo) (k : Keeps old mid) where
  abbrev bounds : Bounds
  bounds = bounds_of started.listing part

  of_reached : (path : List ℕ) → IsRefusedAmong todo mid new path
      → (options.depth ≡ Full) × (is_path path ≡ true) × (IsTrue old.honest → IsSummed old.bag path)
  of_reached path (passed, rest, cut, refused) =
      let listed : Contains todo path =
      subst (λ l. Contains l path) (sym cut) (contains_back passed (path ∷ rest) path (contains_first path rest)) in
      let is = ((started.files.members path).0 listed).0 in (
        is.0,
        (started.is_bag.paths path is.1.0).0,
        λ honest.
            subst (λ bag. IsSummed bag path) (started.honest honest) is.1,
      )

  pub of_mid : IsTrue mid.honest → IsOf mid.bag
  of_mid honest = subst IsOf (started.honest (sym k.honest ∙ honest) ∙ sym k.bag) started.of

  pub stop_of_part : NothingFailed old mid → (end : SegmentEnd)
      → IfUnread end (MayStopRun (IsTrue mid.honest → IsOf mid.bag) todo mid new)
      → IfUnread end (MayStop options old new)
  stop_of_part no_failure (Unread stop) (inl (memory, tells)) =
      memory_may_stop options old new stop memory (memory_then old mid new no_failure tells)
  stop_of_part no_failure (Unread stop) (inr h) = let s = h of_mid in record {
    cause = later_refusal old mid new stop.cause k s.cause;
    answered =
        elim s.path [
          | inl none ↦ inl none
          | inr reached ↦ inr (inr (path_some stop.path (of_reached stop.path reached).1, s.answered))
        ];
    path = elim s.path [ inl none ↦ inl none | inr reached ↦ inr (inr (inr (of_reached stop.path reached))) ];
    memory = s.memory;
    out_of_memory = λ m. memory_then old mid new no_failure (s.out_of_memory m);
  }
  stop_of_part no_failure other stops = tt

  -- what is left is the part of the report of what was seen
  pub left_of : (report : List Fault)
      → IsReport (record { bag = started.seen; profile = profile; options = options }) report
      → (files : List FileEntry) → AreFilesIn started.seen files
      → left started.seen ≡ part_of files part (above after report)
  left_of report is files are =
      one_list fault_cmp fault_cmp_total (IsWithin bounds (IsAsked started.seen profile (asking_of options after)))
      (left started.seen) (part_of started.listing part (above after report)) started.stands
      (filtered_list fault_cmp (IsAsked started.seen profile (asking_of options after)) (is_within bounds)
      (above after report) (above_report started.seen profile (asking_of options after) report is))
      ∙ ap (λ list. part_of list part (above after report))
      (one_list_of_files started.seen started.listing files started.listed are)

  module _ (honest : IsTrue old.honest) where
    pub sees_of : Sees mid todo started.seen
    sees_of = inl (k.honest ∙ honest, k.bag ∙ sym (started.honest honest))

    -- the files of the bag give the bounds
    pub same_files : (files : List FileEntry) → AreFilesIn old.bag files → started.listing ≡ files
    same_files files are =
        one_list_of_files old.bag started.listing files
        (subst (λ bag. AreFilesIn bag started.listing) (started.honest honest) started.listed) are

    -- what is left is the part of the report above the cursor
    pub left_is : (report : List Fault)
        → IsReport (record { bag = old.bag; profile = profile; options = options }) report
        → (files : List FileEntry) → AreFilesIn old.bag files
        → left started.seen ≡ part_of files part (above after report)
    left_is report is files are =
        left_of report
        (subst (λ bag. IsReport (record { bag = bag; profile = profile; options = options }) report)
        (sym (started.honest honest)) is)
        files (subst (λ bag. AreFilesIn bag files) (sym (started.honest honest)) are)

  pub sees_one : IsTrue old.honest ⊎ (options.depth ≢ Full) → Sees mid todo started.seen
  sees_one (inl honest) = sees_of honest
  sees_one (inr below) = inr (none_of todo (λ path c. below ((started.files.members path).0 c).0.0))

-- a part is of the bag that was seen
pub part_written : {old mid : TreeState} (new : TreeState) {profile : Option Profile} (request : Request) {part : Part}
    {IsOf : Bag → Type 0} {left : Bag → List Fault} {todo : List (List ℕ)}
    → (started : IsPartStarted old profile request.options request.after part IsOf left todo) → Keeps old mid
    → (before lines : OutState) (segment : Segment)
    → ((bag : Bag) → IsOf bag → Sees mid todo bag → IsSegment (left bag) (limit_of request) before lines segment)
    → WritesPart old profile request part before lines segment
part_written new request started k before lines segment seen = record {
  seen = started.seen;
  is_bag = started.is_bag;
  honest = started.honest;
  faults = λ one report is files are.
      subst (λ faults. IsSegment faults (limit_of request) before lines segment)
      (left_of new started k report is files are)
      (seen started.seen started.of (sees_one new started k one));
}

-- where nothing was looked at, of the tree's
pub none_written : (old : TreeState) (profile : Option Profile) (request : Request) (part : Part) (before : OutState)
    (segment : Segment) → IsBag old.bag
    → ((faults : List Fault) → IsSegment faults (limit_of request) before before segment)
    → WritesPart old profile request part before before segment
none_written old profile request part before segment is_bag all = record {
  seen = old.bag;
  is_bag = is_bag;
  honest = λ honest. refl;
  faults = λ one report is files are. all (part_of files part (above request.after report));
}

-- over an honest tree it is of its bag
pub part_faults : (old : TreeState) (profile : Option Profile) (request : Request) (part : Part)
    (before lines : OutState) (segment : Segment) → WritesPart old profile request part before lines segment
    → ForPart old profile request part (λ faults. IsSegment faults (limit_of request) before lines segment)
part_faults old profile request part before lines segment writes honest report is files are =
    let same = sym (writes.honest honest) in
    writes.faults (inl honest) report (subst (λ bag. IsReport (check_of bag profile request) report) same is) files
    (subst (λ bag. AreFilesIn bag files) same are)

-- how many faults were passed when the last was looked for is less than the limit
looked_within : (faults : List Fault) (limit n : ℕ) (end : SegmentEnd) → 0 < limit → EndsSegment faults limit n end
    → looked_past end n < limit
looked_within faults limit n IsFull some ends = omega (arith, ends.0, some)
looked_within faults limit n AtEnd some ends = ends.0
looked_within faults limit n (Unread stop) some ends = ends.0
looked_within faults limit n Unwritten some ends = ends.0

-- and what it opens
module _ {old mid : TreeState} (new : TreeState) {profile : Option Profile} (request : Request) {part : Part}
    {IsOf : Bag → Type 0} {left : Bag → List Fault} {todo others : List (List ℕ)}
    (started : IsPartStarted old profile request.options request.after part IsOf left todo) (k : Keeps old mid)
    (read : OpensWanted request.options old mid) (again : OpensAgain todo others mid new) (segment : Segment)
    (none : (bag : Bag) → IsOf bag → Sees mid todo bag → OpensNoFileEarly (still_to_come segment (left bag)) mid new)
  where
    abbrev paths : List (List ℕ)
    paths = (opened_front again).0

    joins : (xs : List (List ℕ)) → mid.openings ++ xs ≡ old.openings ++ (read.0 ++ xs)
    joins xs = ap (λ o. o ++ xs) read.1 ∙ append_assoc old.openings read.0 xs

    -- each of the files is to be opened
    each : (path : List ℕ) → Contains paths path
        → IsToOpen (check_of started.seen profile request) request.after path
        × (is_file_within (bounds_of started.listing part) path ≡ true)
    each path c = (started.files.members path).0 (again_within again paths (opened_front again).2 path c)

    pub part_opens : OpensInPart profile request part segment old new
    part_opens = record {
      read = read.0;
      summed = paths;
      opened = (opened_front again).2 ∙ joins paths;
      read_in_order = read.2;
      wanted = read.3;
      summed_in_order =
          front_ascends paths (opened_front again).1
          (subst (IsStrictlySortedBy text_cmp) (opened_front again).3 started.files.ascending);
      only_at_full = λ below. none_of paths (λ path c. below (each path c).0.0);
      none_passed =
          let none : List ℕ → Type 0 = λ path. is_passed request.after path ≡ false in
          all_along none paths (each_from_members none paths (λ path c. (each path c).0.2));
      of_part = λ honest files are path c.
          let both = each path c in (
            subst (λ bag. IsToOpen (check_of bag profile request) request.after path) (started.honest honest) both.0,
            subst (λ list. is_file_within (bounds_of list part) path ≡ true)
                (same_files new started k honest files are) both.1,
          );
      in_turn = λ honest report is files are.
          subst (λ faults. NoFaultBefore (still_to_come segment faults) paths)
          (left_is new started k honest report is files are)
          (none started.seen started.of (sees_of new started k honest) paths (opened_front again).2);
    }

    -- where its early faults reach the limit, no file was opened
    pub part_unlooked : 0 < limit_of request
        → ((bag : Bag) → IsOf bag → Sees mid todo bag
        → EndsSegment (left bag) (limit_of request) segment.written segment.end)
        → LooksNoFurtherInPart profile request part old new
    part_unlooked some ends honest files are early list enough =
        let sees = sees_of new started k honest in
        let bounds : Bounds = bounds_of started.listing part in
        let own : IsListOf fault_cmp
        (λ f. IsWithin bounds (IsAsked started.seen profile request) f × (stage f.code < 7)) early =
        subst (λ bag. IsListOf fault_cmp
        (λ f. IsWithin bounds (IsAsked bag profile request) f × (stage f.code < 7)) early)
        (sym (started.honest honest))
        (subst (λ given. IsListOf fault_cmp
        (λ f. IsWithin (bounds_of given part) (IsAsked old.bag profile request) f × (stage f.code < 7)) early)
        (sym (same_files new started k honest files are)) list) in
        let first =
        early_at (IsWithin bounds (IsAsked started.seen profile request)) early (left started.seen) own started.stands
        (looked_past segment.end segment.written)
        (omega (
          arith,
          looked_within (left started.seen) (limit_of request) segment.written segment.end some
              (ends started.seen started.of sees),
          enough,
        )) in
        let nothing : paths ≡ [] =
        none_of paths (λ path d.
        none started.seen started.of sees paths (opened_front again).2 first.0 path first.1 d (inl first.2)) in (
          read.0,
          (opened_front again).2 ∙ ap (λ l. mid.openings ++ l) nothing ∙ append-nil mid.openings ∙ read.1,
          read.2,
          read.3,
        )

    module _ (all : ForListing old (λ files. OpensAll request.options files old mid)) where
      -- it stopped at a file that was to be opened
      up_to_summed : (n : ℕ) (path : List ℕ) → path ≢ []
          → ((bag : Bag) → IsOf bag → Sees mid todo bag → NoFaultBeforeStop (drop n (left bag)) path)
          → IsRefusedAmong todo mid new path → OpensPartUpTo profile request part n path old new
      up_to_summed n path some waits (passed, behind, cut, refused) =
          let (listing, ordered, of, (whole, are, is)) = all in (
            todo,
            record {
              read = read.0;
              before = passed;
              later = behind;
              read_in_order = read.2;
              wanted = read.3;
              all_read = (
                listing,
                ordered,
                of,
                subst (AreWanted request.options listing.files)
                    (append_cancel_left old.openings whole read.0 (sym is ∙ read.1)) are,
              );
              cut = cut;
              in_order = started.files.ascending;
              refused = subst (λ opened. IsRefusedAt opened path new) (joins passed) refused;
            },
            λ honest files given.
                subst (λ list. AreToOpenWithin (check_of old.bag profile request) request.after (bounds_of list part)
                todo) (same_files new started k honest files given)
                (subst (λ bag. AreToOpenWithin (check_of bag profile request) request.after
                (bounds_of started.listing part) todo) (started.honest honest) started.files),
            λ honest report is files given.
                subst (λ faults. NoFaultBefore (drop n faults) (path ∷ []))
                (left_is new started k honest report is files given)
                (waits started.seen started.of (sees_of new started k honest) some),
          )

      pub part_stopped : (end : SegmentEnd) (n : ℕ)
          → IfUnread end (MayStopRun (IsTrue mid.honest → IsOf mid.bag) todo mid new)
          → IfUnread end (λ stop. (bag : Bag) → IsOf bag → Sees mid todo bag
          → NoFaultBeforeStop (drop n (left bag)) stop.path)
          → IfUnread end (λ stop. stop.path ≢ []
          → ForListing old (λ files. OpensUpTo request.options files stop.path old new)
          ⊎ OpensPartUpTo profile request part n stop.path old new)
      part_stopped (Unread stop) n (inl (memory, tells)) waits = λ some. absurd (some memory.1)
      part_stopped (Unread stop) n (inr h) waits = λ some. elim (h (of_mid new started k)).path [
        | inl memory ↦ absurd (some memory.1)
        | inr reached ↦ inr (up_to_summed n stop.path some waits reached)
      ]
      part_stopped other n may waits = tt
