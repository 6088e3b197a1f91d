-- The payload files that segments open.
use Rattle.bag_walk.proofs.Common.{◌≡◌, ◌<◌, ◌≤◌, ◌+◌, ◌-◌, ◌*◌, ◌++◌, ◌∙◌, inl, inr, ℕ, suc, Bool, true, not, List, []}
use Rattle.bag_walk.proofs.Common.{Option, None, Some, Contains, length, drop, filter, sym, ap, subst, append-nil}
use Rattle.bag_walk.proofs.Common.{append_assoc, arith, IsStrictlySortedBy, length-append, filter-append, IsListOf}
use Rattle.bag_walk.proofs.Common.{is_payload_path, text_cmp, contains_either, contains_front, contains_nothing}
use Rattle.bag_walk.proofs.Common.{same_members, TreeState, Fault, OpensWanted, Options, kept, Check, filtered_list}
use Rattle.bag_walk.proofs.Common.{NoFaultBefore, OpensAgain, OpensNoFileEarly, IsListedToOpen, is_passed, EndsSegment}
use Rattle.bag_walk.proofs.Common.{looked_past, still_to_come, AreCompared, IsComparedFile, OpensFew, OpensInSegment}
use Rattle.bag_walk.proofs.Common.{not_passed, cursor_after, Segment, not-true, append_cancel_left, cases_lt}
use Rattle.bag_walk.specs.declared.segment.SegmentEnd.TheVariants.{Full}
use Rattle.bag_sources.proofs.Filling.{opened_front}
use Rattle.bag_walk.proofs.Openings.{no_payload, payload_of}
use Rattle.bag_walk.proofs.Passed.{NoneBehindLast, no_more, one_twice}
use Rattle.bag_sources.proofs.Places.{at_later, at_place, contains_from}

-- ---- one segment

none_behind_nothing : (last : Option Fault) (paths : List (List ℕ)) → paths ≡ [] → NoneBehindLast last paths
none_behind_nothing last paths none = grind (arith, contains_nothing)

none_in_nothing : (faults : List Fault) (paths : List (List ℕ)) → paths ≡ [] → NoFaultBefore faults paths
none_in_nothing faults paths none f path c d before = contains_nothing path (subst (λ l. Contains l path) none d)

-- where tag files alone were read, no payload file was opened
pub opens_no_payload : (options : Options) {listed : List (List ℕ)} {report : List
    Fault} {n : ℕ} {segment : Segment} {old new : TreeState}
    → OpensWanted options old new → OpensInSegment listed report n segment old new
opens_no_payload options {listed} {report} {n} {segment} {old} {new} read =
    let none : filter is_payload_path read.0 ≡ [] = no_payload options old new read read.0 read.1 in
    record {
      opened = read.0;
      openings = read.1;
      rest = not_passed (cursor_after n report) listed;
      first = sym (ap (λ xs. xs ++ not_passed (cursor_after n report) listed) none);
      in_turn = none_in_nothing (still_to_come segment (drop n report)) (filter is_payload_path read.0) none;
    }

-- the listed files that a cursor hasn't passed are those of the payload that are still to be opened
pub not_passed_listed : (check : Check) (cursor : Option Fault) (listed : List (List ℕ))
    → AreCompared check.options check.bag listed
    → IsListOf text_cmp (IsListedToOpen check cursor) (not_passed cursor listed)
not_passed_listed check cursor listed are =
    let ahead : List ℕ → Bool = λ path. not (is_passed cursor path) in
    same_members text_cmp (λ path. IsComparedFile check.options check.bag path × (ahead path ≡ true))
    (IsListedToOpen check cursor) (not_passed cursor listed)
    (λ path h. (h.0.0, h.0.1, h.0.2, h.0.3, not-true (is_passed cursor path) h.1)) (λ path h.
    ((h.0, h.1, h.2, h.3), ap not h.4))
    (filtered_list text_cmp (IsComparedFile check.options check.bag) ahead listed are)

-- tag files were read, and then files were opened that were to be
module _ (old mid new : TreeState) (options : Options) (todo left : List (List ℕ)) (read : OpensWanted options old mid)
    (again : OpensAgain todo left mid new) where
  abbrev paths : List (List ℕ)
  paths = (opened_front again).0

  abbrev opened : List (List ℕ)
  opened = read.0 ++ paths

  payload_is : filter is_payload_path opened ≡ filter is_payload_path paths
  payload_is = payload_of options read.0 paths read.3

  none_before : (faults : List Fault) → OpensNoFileEarly faults mid new
      → NoFaultBefore faults (filter is_payload_path opened)
  none_before faults behind f path c d =
      behind paths (opened_front again).2 f path c
      (kept is_payload_path paths path (subst (λ l. Contains l path) payload_is d)).1

  pub opens_front : (listed : List (List ℕ)) (report : List Fault) (n : ℕ) (segment : Segment)
      → OpensNoFileEarly (still_to_come segment (drop n report)) mid new
      → filter is_payload_path todo ≡ not_passed (cursor_after n report) listed
      → OpensInSegment listed report n segment old new
  opens_front listed report n segment behind same = record {
    opened = opened;
    openings = (opened_front again).2 ∙ ap (λ l. l ++ paths) read.1 ∙ append_assoc old.openings read.0 paths;
    rest = filter is_payload_path (opened_front again).1;
    first =
        sym same ∙ ap (filter is_payload_path) (opened_front again).3
        ∙ filter-append is_payload_path paths (opened_front again).1
        ∙ ap (λ l. l ++ filter is_payload_path (opened_front again).1) (sym payload_is);
    in_turn = none_before (still_to_come segment (drop n report)) behind;
  }

-- a full segment opened no file after the fault that was written last
module _ (limit n : ℕ) (report : List Fault) (segment : Segment)
    (filled : EndsSegment (drop n report) limit segment.written Full) (full : segment.end ≡ Full)
    {listed : List (List ℕ)} {old new : TreeState} (opens : OpensInSegment listed report n segment old new) where
  last_written : 0 < limit
      → NoneBehindLast (cursor_after (n + segment.written) report) (filter is_payload_path opens.opened)
  last_written some =
      let k : ℕ = segment.written - 1 in
      let at = at_place k (drop n report) (omega (arith, some, filled.0, filled.1)) in
      let place : n + segment.written ≡ suc (n + k) = omega (arith, some, filled.0) in
      let last : cursor_after (n + segment.written) report ≡ Some at.0 =
      ap (λ i. cursor_after i report) place ∙ at_later n k report at.0 at.1 in
      let waits : Contains (still_to_come segment (drop n report)) at.0 =
      subst (λ e. Contains (drop (looked_past e segment.written) (drop n report)) at.0) (sym full)
      (contains_from k (drop n report) at.0 at.1) in
      subst (λ c. NoneBehindLast c (filter is_payload_path opens.opened)) (sym last) (λ path c.
      opens.in_turn at.0 path waits c)

  opened_nothing : new ≡ old → opens.opened ≡ []
  opened_nothing same =
      append_cancel_left old.openings opens.opened []
      (sym opens.openings ∙ ap (λ (s : TreeState). s.openings) same ∙ sym (append-nil old.openings))

  pub none_behind_last : (limit ≡ 0 → new ≡ old)
      → NoneBehindLast (cursor_after (n + segment.written) report) (filter is_payload_path opens.opened)
  none_behind_last untouched = elim (cases_lt 0 limit) [
    | inl some ↦ last_written some
    | inr none ↦ none_behind_nothing _ _
        (ap (filter is_payload_path) (opened_nothing (untouched (omega (arith, none)))))
  ]

-- ---- segment after segment

-- What the first i segments opened of the payload. What the cursor hasn't passed is still to be opened.
pub record OpenedSoFar (listed : List (List ℕ)) (i unread : ℕ) (cursor : Option Fault) (old now : TreeState) : Type 0
  where
    pub opened : List (List ℕ)
    pub openings : now.openings ≡ old.openings ++ opened
    pub only_compared : (path : List ℕ) → Contains (filter is_payload_path opened) path → Contains listed path
    pub few : length (filter is_payload_path opened) ≤ (unread + 1) * length listed + (i - 1)
    pub room : length (filter is_payload_path opened) + length (not_passed cursor listed)
        ≤ (unread + 1) * length listed + i

pub opened_none : (listed : List (List ℕ)) (old : TreeState) → OpenedSoFar listed 0 0 None old old
opened_none listed old = grind (arith, append-nil, contains_nothing, no_more)

pub few_of : (listed : List (List ℕ)) (i unread segments : ℕ) (cursor : Option Fault) (old now : TreeState)
    → OpenedSoFar listed i unread cursor old now → i ≤ segments
    → OpensFew listed segments unread old now
few_of listed i unread segments cursor old now so le =
    record { opened = so.opened; openings = so.openings; only_compared = so.only_compared; few = omega (arith, so.few, le) }

module _ (listed : List (List ℕ)) (report : List Fault) (n i unread : ℕ) (segment : Segment) {old now new : TreeState}
    (so : OpenedSoFar listed i unread (cursor_after n report) old now)
    (opens : OpensInSegment listed report n segment now new) where
  abbrev both : List (List ℕ)
  both = so.opened ++ opens.opened

  only : (path : List ℕ) → Contains (filter is_payload_path both) path → Contains listed path
  only path c =
      elim (contains_either (filter is_payload_path so.opened) (filter is_payload_path opens.opened) path
      (rw (← filter-append) c)) [
        | inl a ↦ so.only_compared path a
        | inr b ↦ (kept (λ p. not (is_passed (cursor_after n report) p)) listed path
            (subst (λ l. Contains l path) (sym opens.first)
            (contains_front (filter is_payload_path opens.opened) opens.rest path b))).1
      ]

  -- one segment more, after which none follows
  pub few_with_last : (segments : ℕ) → i < segments → OpensFew listed segments unread old new
  few_with_last segments less = grind (arith, only, append_assoc, filter-append, length-append)

  -- and one after which others follow: a full one
  pub full_more : (last : Option Fault) → IsStrictlySortedBy text_cmp listed
      → ((path : List ℕ) → is_passed (cursor_after n report) path ≡ true → is_passed last path ≡ true)
      → NoneBehindLast last (filter is_payload_path opens.opened) → OpenedSoFar listed (i + 1) unread last old new
  full_more last sorted later none = grind (arith, only, append_assoc, filter-append, length-append, one_twice)

  -- or one that was unread
  pub unread_more : (last : Option Fault) → OpenedSoFar listed (i + 1) (unread + 1) last old new
  unread_more last = grind (arith, only, append_assoc, filter-append, length-append, no_more)
