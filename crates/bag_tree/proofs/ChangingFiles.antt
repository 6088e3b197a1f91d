-- What changes of files ask, one after another, and what a power cut leaves of them.
use Rattle.bag_tree.proofs.Common.{arith, ◌≡◌, ◌++◌, ◌∷◌, ◌+◌, ◌-◌, ◌<◌, ℕ, zero, suc, List, [], IsTrue, refl, ap, sym}
use Rattle.bag_tree.proofs.Common.{◌∙◌, subst, append-nil, append_assoc, get_or, length, take, is_base_name}
use Rattle.std.proofs.lemmas.List.Sums.{fold_more}
use Rattle.std.proofs.lemmas.Option.{get_or_from_slice_get, slice_get_within}
use Rattle.std.specs.Prelude.{Err, IfErr, Ok, OnOk, Result}
use Rattle.bag_tree.proofs.OneMore.{take_one_more}
use Rattle.bag_tree.proofs.FileChanges.{cuts_leave_first_changes, changes_are_durable}
use Rattle.bag_tree.proofs.Resumed.{resumed_changes_are_durable, resumed_cuts}
use Rattle.bag_tree.proofs.Runs.{left_between}
use Rattle.bag_tree.specs.Asked.{Adds}
use Rattle.bag_tree.specs.ChangeFiles.{HasChanged, HasStopped, LastsChanged, LastsResumed, OutlastsChanges}
use Rattle.bag_tree.specs.ChangeFiles.{OutlastsResumedChanges, more_by}
use Rattle.bag_tree.specs.Changes.{AppliesStep}
use Rattle.bag_tree.specs.Cut.{EachCut, MayLeave}
use Rattle.bag_tree.specs.FileChanges.{AsksFirstOf, CanChangeAll, ChangeAsks, ChangesAsk, IsAfterFirst, after_changes}
use Rattle.bag_tree.specs.FileChanges.{changed}
use Rattle.bag_tree.specs.Resumed.{EachResumedCut}
use Rattle.bag_tree.specs.Tree.{TreeState}
use Rattle.bag_tree.specs.declared.changing_files.RefusedChange.{RefusedChange}
use Rattle.bag_tree.specs.declared.event.DeviceEvent.{DeviceEvent}
use Rattle.bag_tree.specs.declared.file_change.FileChange.{FileChange}
use Rattle.bag_tree.specs.declared.file_change.FileChange.TheVariants.{Put, Remove}

-- each change can be asked for
one_asked : (beside : List ℕ) (change : FileChange) (before : List DeviceEvent)
    → (now : List DeviceEvent) × ChangeAsks beside change before now
one_asked beside (Put name bytes) before = (
  _,
  record { syncs = []; are_syncs = tt; pieces = bytes ∷ []; whole = append-nil bytes; asked = refl },
)
one_asked beside (Remove name) before = (_, record { syncs = []; are_syncs = tt; asked = refl })

all_asked : (beside : List ℕ) (changes : List FileChange) (before : List DeviceEvent)
    → (es : List DeviceEvent) × ChangesAsk beside changes before es
all_asked beside [] before = ([], refl)
all_asked beside (change ∷ changes) before =
    let one = one_asked beside change before in
    let more = all_asked beside changes (before ++ one.0) in (one.0 ++ more.0, (one.0, more.0, refl, one.1, more.1))

-- the first of these, and the first of what one more asks
first_of : (beside : List ℕ) (changes : List FileChange) (k : ℕ) (change : FileChange)
    (before es first rest : List DeviceEvent) → k < length changes → change ≡ get_or changes k change
    → ChangesAsk beside (take k changes) before es → ChangeAsks beside change (before ++ es) (first ++ rest)
    → (more : List DeviceEvent) × ChangesAsk beside changes before ((es ++ first) ++ more)
first_of beside [] k change before es first rest within at asked asks = absurd (omega arith)
first_of beside (c ∷ changes) zero change before es first rest within at none asks =
    let here : ChangeAsks beside c before (first ++ rest) =
    subst (λ (x : FileChange). ChangeAsks beside x before (first ++ rest)) at
    (subst (λ (xs : List DeviceEvent). ChangeAsks beside change xs (first ++ rest))
    (ap (λ (xs : List DeviceEvent). before ++ xs) none ∙ append-nil before) asks) in
    let more = all_asked beside changes (before ++ (first ++ rest)) in (
      rest ++ more.0,
      (
        first ++ rest,
        more.0,
        ap (λ (xs : List DeviceEvent). (xs ++ first) ++ (rest ++ more.0)) none
            ∙ sym (append_assoc first rest more.0),
        here,
        more.1,
      ),
    )
first_of beside (c ∷ changes) (suc k) change before es first rest within at (one, later, is, asked, others) asks =
    let more =
    first_of beside changes k change (before ++ one) later first rest (omega arith) at others
    (subst (λ (xs : List DeviceEvent). ChangeAsks beside change xs (first ++ rest))
    (ap (λ (xs : List DeviceEvent). before ++ xs) is ∙ sym (append_assoc before one later)) asks) in (
      more.0,
      (
        one,
        (later ++ first) ++ more.0,
        ap (λ (xs : List DeviceEvent). (xs ++ first) ++ more.0) is
            ∙ ap (λ (xs : List DeviceEvent). xs ++ more.0) (append_assoc one later first)
            ∙ append_assoc one (later ++ first) more.0,
        asked,
        more.1,
      ),
    )

-- and a sync that was refused
first_of_all : (beside : List ℕ) (changes : List FileChange) (k : ℕ) (change : FileChange)
    (before es now : List DeviceEvent) → k < length changes → change ≡ get_or changes k change
    → ChangesAsk beside (take k changes) before es → AsksFirstOf (ChangeAsks beside change) (before ++ es) now
    → AsksFirstOf (ChangesAsk beside changes) before (es ++ now)
first_of_all beside changes k change before es now within at asked some =
    let more = first_of beside changes k change before es some.first some.rest within at asked some.asked in
    record {
      first = es ++ some.first;
      rest = more.0;
      asked = more.1;
      refused = some.refused;
      are_refused = some.are_refused;
      is = ap (λ (xs : List DeviceEvent). es ++ xs) some.is ∙ sym (append_assoc es some.first some.refused);
    }

-- all of these, and one more
all_and_one : (beside : List ℕ) (changes : List FileChange) (change : FileChange) (before es now : List DeviceEvent)
    → ChangesAsk beside changes before es → ChangeAsks beside change (before ++ es) now
    → ChangesAsk beside (changes ++ change ∷ []) before (es ++ now)
all_and_one beside [] change before es now none asks = (
  now,
  [],
  ap (λ (xs : List DeviceEvent). xs ++ now) none
      ∙ sym (append-nil now),
  subst (λ (xs : List DeviceEvent). ChangeAsks beside change xs now)
      (ap (λ (xs : List DeviceEvent). before ++ xs) none ∙ append-nil before) asks,
  refl,
)
all_and_one beside (c ∷ changes) change before es now (first, later, is, asked, rest) asks = (
  first,
  later ++ now,
  ap (λ (xs : List DeviceEvent). xs ++ now) is ∙ append_assoc first later now,
  asked,
  all_and_one beside changes change (before ++ first) later now rest
      (subst (λ (xs : List DeviceEvent). ChangeAsks beside change xs now)
      (ap (λ (xs : List DeviceEvent). before ++ xs) is ∙ sym (append_assoc before first later)) asks),
)

module _ (beside : List ℕ) where
  adds_one : (changes : List FileChange) (change : FileChange) (old mid new : List DeviceEvent)
      → Adds (ChangesAsk beside changes) old mid → Adds (ChangeAsks beside change) mid new
      → Adds (ChangesAsk beside (changes ++ change ∷ [])) old new
  adds_one changes change old mid new so_far one = record {
    now = so_far.now ++ one.now;
    trail = one.trail ∙ ap (λ (xs : List DeviceEvent). xs ++ one.now) so_far.trail
        ∙ append_assoc old so_far.now one.now;
    is =
        all_and_one beside changes change old so_far.now one.now so_far.is
        (subst (λ (xs : List DeviceEvent). ChangeAsks beside change xs one.now) so_far.trail one.is);
  }

  pub none_changed : (changes : List FileChange) (state : TreeState) → HasChanged beside (take 0 changes) state state
  none_changed changes state = record {
    bag = λ h. refl;
    honest = refl;
    no_failure = refl;
    openings = refl;
    listed = refl;
    gave = refl;
    noted = refl;
    asked = λ noted. record { now = []; trail = sym (append-nil state.trail); is = refl };
  }

  pub one_more_changed : (changes : List FileChange) (i : ℕ) (change : FileChange) (old mid new : TreeState)
      → i < length changes → change ≡ get_or changes i change
      → HasChanged beside (take i changes) old mid → AppliesStep (changed change) (more_by change) mid new
      → new.failures ≡ mid.failures
      → (IsTrue mid.noted → Adds (ChangeAsks beside change) mid.trail new.trail)
      → HasChanged beside (take (i + 1) changes) old new
  one_more_changed changes i change old mid new within is so_far done no_failure asked = record {
    bag = λ h.
        done.bag (subst IsTrue (sym so_far.honest) h) ∙ ap (changed change) (so_far.bag h)
        ∙ sym (fold_more (λ b c. changed c b) old.bag changes i change within
        ∙ ap (λ c. changed c (after_changes (take i changes) old.bag)) (sym is));
    honest = done.honest ∙ so_far.honest;
    no_failure = no_failure ∙ so_far.no_failure;
    openings = done.openings ∙ so_far.openings;
    listed = done.listed ∙ so_far.listed;
    gave = done.gave ∙ so_far.gave;
    noted = done.noted ∙ so_far.noted;
    asked = λ noted.
        subst (λ xs. Adds (ChangesAsk beside xs) old.trail new.trail) (sym (take_one_more changes i change within is))
        (adds_one (take i changes) change old.trail mid.trail new.trail (so_far.asked noted)
        (asked (subst IsTrue (sym so_far.noted) noted)));
  }

  module _ (changes : List FileChange) (old new : TreeState) (is : IsTrue (is_base_name beside)) where
    -- the device was asked for the first of what the changes ask
    abbrev AsksFirst : Type 0
    AsksFirst = Adds (AsksFirstOf (ChangesAsk beside changes)) old.trail new.trail

    asked_all : IsTrue old.noted → HasChanged beside changes old new → AsksFirst
    asked_all noted h =
        let asked = h.asked noted in record {
          now = asked.now;
          trail = asked.trail;
          is =
              record {
                first = asked.now;
                rest = [];
                asked = subst (ChangesAsk beside changes old.trail) (sym (append-nil asked.now)) asked.is;
                refused = [];
                are_refused = tt;
                is = sym (append-nil asked.now);
              };
        }

    asked_some : IsTrue old.noted → (refusal : RefusedChange) → HasStopped beside changes old new refusal → AsksFirst
    asked_some noted refusal h =
        let k = refusal.place - 1 in
        let so_far = h.changed.asked noted in
        let one = h.asked (subst IsTrue (sym h.changed.noted) noted) in
        record {
          now = so_far.now ++ one.now;
          trail = one.trail ∙ ap (λ (xs : List DeviceEvent). xs ++ one.now) so_far.trail
              ∙ append_assoc old.trail so_far.now one.now;
          is =
              first_of_all beside changes k h.change old.trail so_far.now one.now
              (slice_get_within changes k h.change h.place)
              (sym (get_or_from_slice_get changes k h.change h.change h.place)) so_far.is
              (subst (λ (xs : List DeviceEvent). AsksFirstOf (ChangeAsks beside h.change) xs one.now) so_far.trail
              one.is);
        }

    -- whether they were all made or one was refused
    asked_by : IsTrue old.noted → (result : Result (Unit {0}) RefusedChange)
        → OnOk result (HasChanged beside changes old new)
        → IfErr result (HasStopped beside changes old new) → AsksFirst
    asked_by noted (Ok done) all stopped = asked_all noted all
    asked_by noted (Err refusal) all stopped = asked_some noted refusal stopped

    -- at each moment
    outlasts : CanChangeAll beside changes old.bag → AsksFirst
        → EachCut old.trail new.trail old.bag (IsAfterFirst beside changes old.bag)
    outlasts can some = record {
      since = some.now;
      trail = some.trail;
      each = λ first durable before after parts left may.
          let between = left_between old.trail before first left may in
          cuts_leave_first_changes beside changes old.bag old.trail some.now is can some.is before after parts left
          (subst (λ d. MayLeave before d left) (durable between.0 between.1) between.2);
    }

    resumed : CanChangeAll beside changes old.bag → AsksFirst
        → EachResumedCut beside old.trail new.trail old.bag (IsAfterFirst beside changes old.bag)
    resumed can some = record {
      since = some.now;
      trail = some.trail;
      each = λ first durable before after parts left may.
          resumed_cuts beside changes first old.bag old.trail some.now is can durable some.is before after parts left
          may;
    }

    pub outlasts_by : (result : Result (Unit {0}) RefusedChange) → OnOk result (HasChanged beside changes old new)
        → IfErr result (HasStopped beside changes old new) → OutlastsChanges beside changes old new
    outlasts_by result all stopped noted can = outlasts can (asked_by noted result all stopped)

    pub resumed_by : (result : Result (Unit {0}) RefusedChange) → OnOk result (HasChanged beside changes old new)
        → IfErr result (HasStopped beside changes old new) → OutlastsResumedChanges beside changes old new
    resumed_by result all stopped noted can = resumed can (asked_by noted result all stopped)

    lasts : HasChanged beside changes old new → LastsChanged beside changes old new
    lasts h noted can first durable left may =
        let asked = h.asked noted in
        let between =
        left_between old.trail asked.now first left
        (subst (λ (xs : List DeviceEvent). MayLeave xs first left) asked.trail may) in
        changes_are_durable beside changes old.bag old.trail asked.now is can asked.is left
        (subst (λ d. MayLeave asked.now d left) (durable between.0 between.1) between.2)

    lasts_so : HasChanged beside changes old new → LastsResumed beside changes old new
    lasts_so h noted can some first durable left may =
        let asked = h.asked noted in
        resumed_changes_are_durable beside changes first old.bag old.trail asked.now is can some durable asked.is left
        (subst (λ (xs : List DeviceEvent). MayLeave xs first left) asked.trail may)

    pub lasts_by : (result : Result (Unit {0}) RefusedChange) → OnOk result (HasChanged beside changes old new)
        → OnOk result (LastsChanged beside changes old new)
    lasts_by (Ok done) all = lasts all
    lasts_by (Err refusal) all = all

    pub lasts_resumed_by : (result : Result (Unit {0}) RefusedChange)
        → OnOk result (HasChanged beside changes old new) → OnOk result (LastsResumed beside changes old new)
    lasts_resumed_by (Ok done) all = lasts_so all
    lasts_resumed_by (Err refusal) all = all
