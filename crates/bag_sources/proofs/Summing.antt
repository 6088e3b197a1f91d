-- Going through files whose digests are compared.
use Rattle.bag_sources.proofs.Common.{IsSome, ◌≡◌, ◌++◌, ◌∷◌, ◌⊎◌, inl, inr, ℕ, Bool, List, [], Option, None, Some, IsTrue}
use Rattle.bag_sources.proofs.Common.{Contains, ap, refl, sym, ◌∙◌, subst, append_assoc, arith, cond, flat_map}
use Rattle.bag_sources.proofs.Common.{nat_list_cmp_total, Less, append_cancel_left, map-append, stage, text_cmp}
use Rattle.bag_sources.proofs.Common.{contains_back, contains_behind, contains_cases, contains_either, contains_first}
use Rattle.bag_sources.proofs.Common.{contains_front, contains_nothing, member_has, Bag, file, NothingFailed, TreeState}
use Rattle.bag_sources.proofs.Common.{IsEntryOf, Keeps, OpensAtMost, IsRefusedAt, Stop, TreeFault, nothing_then}
use Rattle.bag_sources.proofs.Common.{IsOutOfMemory, IsRefusalOf, Fault, not_both, not_less_than_itself, mapped_contains}
use Rattle.bag_sources.proofs.Common.{kept, keeps_on, differing, differing_code, sum_differs, above, is_above}
use Rattle.bag_sources.proofs.Common.{IsBeforeFile, IsRefusedAmong, NoFaultBeforeStop, OpensNoFileEarly, first_of, rest_of}
use Rattle.bag_sources.proofs.Common.{MayStopAnyway, MayStopFilling, Sees, faults_at, faults_in, faults_of_files}
use Rattle.bag_sources.proofs.Common.{paths_to_sum, AreFilesOf, IsOfBag, Expected, ToSum, front_is, All-before_last}
use Rattle.bag_sources.proofs.Common.{FindsFaults, GoesThrough, OpensAgain, StopsAtFile}
use Rattle.bag_sources.proofs.Common.{All-contains, front_ascends, length, length-append, length-map, Contains-push_cases}
use Rattle.std.specs.List.Sorted.{IsStrictlySortedBy}
use Rattle.bag_read.specs.declared.kind.Kind.{Kind}
use Rattle.bag_read.proofs.PickedOut.{picked}
use Rattle.bag_sources.proofs.Filling.{anyway_later, stop_later}

-- members of lists made of lists
pub in_flat_map : {A B : Type 0} (g : A → List B) (xs : List A) (y : B) → Contains (flat_map g xs) y
    → (x : A) × Contains xs x × Contains (g x) y
in_flat_map g [] y c = absurd (contains_nothing y c)
in_flat_map g (x ∷ xs) y c = elim (contains_either (g x) (flat_map g xs) y c) [
  | inl a ↦ (x, contains_first x xs, a)
  | inr d ↦ (let more = in_flat_map g xs y d in (more.0, contains_behind x xs more.0 more.1, more.2))
]

-- a fault of a file is of the seventh stage, and tells of that file
record TellsOf (path : List ℕ) (f : Fault) : Type 0 where
  at : f.path ≡ path
  stage_is : stage f.code ≡ 7

differing_stage : (kind : Kind) → stage (differing_code kind) ≡ 7
differing_stage kind = grind arith

tells_by : (path : List ℕ) (expected : Expected) (found : List ℕ) (b : Bool) (f : Fault)
    → cond b None (Some (sum_differs path expected found)) ≡ Some f → TellsOf path f
tells_by path expected found b f e = grind (arith, differing_stage)

tells_at : (to_sum : ToSum) (content : Option (List ℕ)) (f : Fault) → Contains (faults_at to_sum content) f
    → TellsOf to_sum.file.path f
tells_at to_sum None f c = absurd (contains_nothing f c)
tells_at to_sum (Some content) f c =
    grind (arith, picked (differing to_sum.file.path content) to_sum.expected f c, tells_by)

tells_of : (bag : Bag) (after : Option Fault) (files : List ToSum) (f : Fault)
    → Contains (faults_of_files bag after files) f
    → (to_sum : ToSum) × Contains files to_sum × TellsOf to_sum.file.path f
tells_of bag after files f c =
    let one = in_flat_map (λ to_sum. above after (faults_in bag to_sum)) files f c in
    (one.0, one.1, tells_at one.0 (file bag one.0.file.path) f (kept (is_above after) (faults_in bag one.0) f one.2).1)

back_ascends : (xs ys : List (List ℕ)) → IsStrictlySortedBy text_cmp (xs ++ ys) → IsStrictlySortedBy text_cmp ys
unfolding IsStrictlySortedBy
back_ascends [] ys s = s
back_ascends (x ∷ xs) ys s = back_ascends xs ys s.1

-- the place of a path in an ascending list
module _ (y : List ℕ) (ys xs : List (List ℕ)) (x : List ℕ) (s : IsStrictlySortedBy text_cmp (xs ++ y ∷ ys)) where
  before_it : Contains xs x → text_cmp x y ≡ Less
  before_it c =
      All-contains (λ z. text_cmp z y ≡ Less) xs x
      (All-before_last text_cmp xs y (front_ascends (xs ++ y ∷ []) ys (rw append_assoc s))) c

  behind_it : Contains ys x → text_cmp y x ≡ Less
  unfolding IsStrictlySortedBy
  behind_it c = member_has _ ys x (back_ascends xs (y ∷ ys) s).0 c

paths_joined : (xs ys : List ToSum) → paths_to_sum (xs ++ ys) ≡ paths_to_sum xs ++ paths_to_sum ys
paths_joined xs ys = map-append (λ (t : ToSum). t.file.path) xs ys

files_behind : (bag : Bag) (all passed pending : List ToSum) → all ≡ passed ++ pending → AreFilesOf bag all
    → AreFilesOf bag pending
files_behind bag all passed pending cut h =
    let whole : AreFilesOf bag (passed ++ pending) = subst (AreFilesOf bag) cut h in record {
      in_order =
          back_ascends (paths_to_sum passed) (paths_to_sum pending)
          (subst (IsStrictlySortedBy text_cmp) (paths_joined passed pending) whole.in_order);
      entries = λ to_sum c. whole.entries to_sum (contains_back passed pending to_sum c);
    }

-- the stop of a file that was refused
pub named_at : (opened : List (List ℕ)) (cause : TreeFault) (path : List ℕ) (new : TreeState) (stop : Stop)
    → IsRefusalOf cause path stop → IsRefusedAt opened path new
    → IsOutOfMemory stop ⊎ ((stop.path ≡ path) × IsRefusedAt opened path new)
named_at opened cause path new stop said refused = grind arith

-- the first files were summed, and had no faults
pub record GoneThrough (all pending : List ToSum) (after : Option Fault) (old new : TreeState) : Type 0 where
  pub keeps : Keeps old new
  pub no_failure : NothingFailed old new
  pub passed : List ToSum
  pub cut : all ≡ passed ++ pending
  pub opened : new.openings ≡ old.openings ++ paths_to_sum passed
  pub same : (bag : Bag) → Sees old (paths_to_sum all) bag
      → faults_of_files bag after pending ≡ faults_of_files bag after all

-- a path can't be less than one that isn't greater than it
clash : (p q r : List ℕ) → text_cmp p q ≡ Less → (q ≡ r) ⊎ (text_cmp q r ≡ Less) → (r ≡ p) ⊎ (text_cmp r p ≡ Less) → ⊥
clash p q r less a b =
    grind (arith, not_less_than_itself nat_list_cmp_total, not_both nat_list_cmp_total, nat_list_cmp_total.trans)

-- no file was opened before which a fault stands
none_behind : (bag : Bag) (after : Option Fault) (all passed rest : List ToSum) (one : ToSum) (pending : List ToSum)
    → AreFilesOf bag all → all ≡ passed ++ pending → pending ≡ one ∷ rest
    → faults_of_files bag after pending ≡ faults_of_files bag after all
    → (f : Fault) (path : List ℕ) → Contains (faults_of_files bag after all) f
    → Contains (paths_to_sum passed ++ one.file.path ∷ []) path → ¬ (IsBeforeFile f path)
none_behind bag after all passed rest one pending files cut front same f path c d before =
    let ordered : IsStrictlySortedBy text_cmp (paths_to_sum passed ++ one.file.path ∷ paths_to_sum rest) =
    subst (IsStrictlySortedBy text_cmp)
    (ap paths_to_sum cut ∙ paths_joined passed pending ∙ ap (λ l. paths_to_sum passed ++ paths_to_sum l) front)
    files.in_order in
    let told = tells_of bag after pending f (subst (λ l. Contains l f) (sym same) c) in
    let now : Contains (one ∷ rest) told.0 = subst (λ l. Contains l told.0) front told.1 in
    let late : (one.file.path ≡ f.path) ⊎ (text_cmp one.file.path f.path ≡ Less) =
    elim (contains_cases one rest told.0 now) [
      | inl e ↦ inl (ap (λ (t : ToSum). t.file.path) e ∙ sym told.2.at)
      | inr behind ↦ inr (rw told.2.at
          (behind_it one.file.path (paths_to_sum rest) (paths_to_sum passed) _ ordered
          (mapped_contains (λ (t : ToSum). t.file.path) rest told.0 behind)))
    ] in
    let early : (path ≡ one.file.path) ⊎ (text_cmp path one.file.path ≡ Less) =
    elim (Contains-push_cases (paths_to_sum passed) one.file.path path d) [
      | inl a ↦ inr (before_it one.file.path (paths_to_sum rest) (paths_to_sum passed) path ordered a)
      | inr e ↦ inl (sym e)
    ] in
    elim before [
      | inl less ↦ absurd (omega (arith, less, told.2.stage_is))
      | inr (stage_is, less) ↦ clash f.path path one.file.path less early late
    ]

-- at one file more
module _ {all pending : List ToSum} {after : Option Fault} {one : ToSum} {old mid : TreeState}
    (is : Some one ≡ first_of pending) (gone : GoneThrough all pending after old mid) where
  front : pending ≡ one ∷ rest_of pending
  front = front_is pending one (sym is)

  cut_more : all ≡ (gone.passed ++ one ∷ []) ++ rest_of pending
  cut_more = gone.cut ∙ ap (λ l. gone.passed ++ l) front ∙ sym (append_assoc gone.passed (one ∷ []) (rest_of pending))

  -- there is a file to be opened
  not_none : paths_to_sum all ≡ [] → ⊥
  not_none none =
      let size =
      simp (length-map, length-append) at (ap length (sym (ap paths_to_sum cut_more) ∙ none))
      in absurd (omega (arith, size))

  faults_are : (faults : List Fault) → (IsTrue mid.honest → faults ≡ above after (faults_in mid.bag one)) → (bag : Bag)
      → Sees old (paths_to_sum all) bag
      → faults ≡ above after (faults_in bag one)
  faults_are faults are bag sees = grind (arith, not_none)

  found_here : (faults : List Fault) → (IsTrue mid.honest → faults ≡ above after (faults_in mid.bag one))
      → (bag : Bag) → Sees old (paths_to_sum all) bag
      → faults ++ faults_of_files bag after (rest_of pending) ≡ faults_of_files bag after all
  found_here faults are bag sees = grind (arith, faults_are faults are bag sees, ap (faults_of_files bag after) front)

  -- it had no fault
  pub gone_on : {new : TreeState} (faults : List Fault) → faults ≡ [] → Keeps mid new → NothingFailed mid new
      → new.openings ≡ mid.openings ++ one.file.path ∷ []
      → (IsTrue mid.honest → faults ≡ above after (faults_in mid.bag one))
      → GoneThrough all (rest_of pending) after old new
  gone_on {new} faults none k no_failure e are = record {
    keeps = keeps_on old mid new gone.keeps k;
    no_failure = nothing_then old mid new gone.no_failure no_failure;
    passed = gone.passed ++ one ∷ [];
    cut = cut_more;
    opened = grind (arith, append_assoc, paths_joined);
    same = λ bag sees.
        ap (λ l. l ++ faults_of_files bag after (rest_of pending)) (sym none) ∙ found_here faults are bag sees;
  }

  reached_here : (new : TreeState) (stop : Stop)
      → IsOutOfMemory stop ⊎ ((stop.path ≡ one.file.path) × IsRefusedAt mid.openings one.file.path new)
      → IsOutOfMemory stop ⊎ IsRefusedAmong (paths_to_sum all) old new stop.path
  reached_here new stop (inl memory) = inl memory
  reached_here new stop (inr (same, refused)) = inr (subst (IsRefusedAmong (paths_to_sum all) old new) (sym same) (
    paths_to_sum gone.passed,
    paths_to_sum (rest_of pending),
    ap paths_to_sum gone.cut ∙ paths_joined gone.passed pending
        ∙ ap (λ l. paths_to_sum gone.passed ++ paths_to_sum l) front,
    subst (λ opened. IsRefusedAt opened one.file.path new) gone.opened refused,
  ))

  waits_here : (new : TreeState) (stop : Stop)
      → IsOutOfMemory stop ⊎ ((stop.path ≡ one.file.path) × IsRefusedAt mid.openings one.file.path new)
      → (bag : Bag) → Sees old (paths_to_sum all) bag → AreFilesOf bag all
      → NoFaultBeforeStop (faults_of_files bag after all) stop.path
  waits_here new stop (inl memory) bag sees files some f path c d before = absurd (some memory.1)
  waits_here new stop (inr (same, refused)) bag sees files some f path c d before =
      none_behind bag after all gone.passed (rest_of pending) one pending files gone.cut front (gone.same bag sees) f
      path c
      (contains_back (paths_to_sum gone.passed) (one.file.path ∷ []) path (subst (λ p. Contains (p ∷ []) path) same d))
      before

  -- what was opened up to here
  opened_is : (new : TreeState) → OpensAtMost mid new one.file.path → (opened : List (List ℕ))
      → new.openings ≡ old.openings ++ opened → (path : List ℕ)
      → Contains opened path → Contains (paths_to_sum gone.passed ++ one.file.path ∷ []) path
  opened_is new at_most opened e path c = grind (arith, append_cancel_left, contains_front, append_assoc)

  behind_here : (new : TreeState) → OpensAtMost mid new one.file.path → (bag : Bag)
      → Sees old (paths_to_sum all) bag → AreFilesOf bag all
      → OpensNoFileEarly (faults_of_files bag after all) old new
  behind_here new at_most bag sees files opened e f path c d =
      none_behind bag after all gone.passed (rest_of pending) one pending files gone.cut front (gone.same bag sees) f
      path c
      (opened_is new at_most opened e path d)

  files_here : (bag : Bag) → AreFilesOf bag all → AreFilesOf bag (rest_of pending)
  files_here bag files = files_behind bag all (gone.passed ++ one ∷ []) (rest_of pending) cut_more files

  entry_here : (IsTrue old.honest → AreFilesOf old.bag all) → IsTrue mid.honest → IsEntryOf mid.bag one.file
  entry_here files honest =
      subst (λ bag. IsEntryOf bag one.file) (sym gone.keeps.bag)
      ((files_behind old.bag all gone.passed pending gone.cut (files (sym gone.keeps.honest ∙ honest))).entries one
      (subst (λ l. Contains l one) (sym front) (contains_first one (rest_of pending))))

  stop_here : {new : TreeState} (stop : Stop)
      → ((rest : List (List ℕ)) → (IsTrue mid.honest → IsEntryOf mid.bag one.file)
      → MayStopFilling (one.file.path ∷ rest) mid new stop)
      → (IsTrue old.honest → AreFilesOf old.bag all) → MayStopFilling (paths_to_sum pending) old new stop
  stop_here {new} stop h files =
      stop_later gone.keeps gone.no_failure
      (subst (λ l. MayStopFilling l mid new stop) (sym (ap paths_to_sum front))
      (h (paths_to_sum (rest_of pending)) (entry_here files)))

  anyway_here : {new : TreeState} (stop : Stop)
      → ((rest : List (List ℕ)) → MayStopAnyway (one.file.path ∷ rest) mid new stop)
      → MayStopAnyway (paths_to_sum pending) old new stop
  anyway_here {new} stop h =
      anyway_later gone.keeps gone.no_failure
      (subst (λ l. MayStopAnyway l mid new stop) (sym (ap paths_to_sum front)) (h (paths_to_sum (rest_of pending))))

  pub goes_up_to : (new : TreeState) → Keeps mid new → OpensAtMost mid new one.file.path
      → GoesThrough after all pending old new
  goes_up_to new k at_most = record {
    keeps = keeps_on old mid new gone.keeps k;
    files = λ bag. files_behind bag all gone.passed pending gone.cut;
    none_early = behind_here new at_most;
  }

  pub goes_past : (new : TreeState) → Keeps mid new → OpensAtMost mid new one.file.path
      → GoesThrough after all (rest_of pending) old new
  goes_past new k at_most = record {
    keeps = keeps_on old mid new gone.keeps k;
    files = files_here;
    none_early = behind_here new at_most;
  }

  -- it had faults
  pub finds_here : {new : TreeState} (faults : List Fault) → (faults ≡ [] → ⊥) → NothingFailed mid new
      → new.openings ≡ mid.openings ++ one.file.path ∷ []
      → (IsTrue mid.honest → faults ≡ above after (faults_in mid.bag one))
      → FindsFaults after all (rest_of pending) old new faults
  finds_here {new} faults some no_failure e are = record {
    no_failure = nothing_then old mid new gone.no_failure no_failure;
    opens = record {
      opened = paths_to_sum (gone.passed ++ one ∷ []);
      openings = grind (arith, append_assoc, paths_joined);
      left = ap paths_to_sum cut_more ∙ paths_joined (gone.passed ++ one ∷ []) (rest_of pending);
    };
    ended = λ none. absurd (some none);
    found = found_here faults are;
  }

  opens_again : (new : TreeState) → OpensAtMost mid new one.file.path
      → OpensAgain (paths_to_sum all) (paths_to_sum pending) old new
  opens_again new at_most = record {
    passed = paths_to_sum gone.passed;
    left = ap paths_to_sum gone.cut ∙ paths_joined gone.passed pending;
    openings = elim at_most [
      | inl none ↦ inl (none ∙ gone.opened)
      | inr it ↦ inr (
        one.file.path,
        paths_to_sum (rest_of pending),
        ap paths_to_sum front,
        it ∙ ap (λ l. l ++ one.file.path ∷ []) gone.opened
            ∙ append_assoc old.openings (paths_to_sum gone.passed) (one.file.path ∷ []),
      )
    ];
  }

  -- it was refused
  pub stops_here : (new : TreeState) (stop : Stop) → OpensAtMost mid new one.file.path
      → IsOutOfMemory stop ⊎ ((stop.path ≡ one.file.path) × IsRefusedAt mid.openings one.file.path new)
      → ((rest : List (List ℕ)) → (IsTrue mid.honest → IsEntryOf mid.bag one.file)
      → MayStopFilling (one.file.path ∷ rest) mid new stop)
      → ((rest : List (List ℕ)) → MayStopAnyway (one.file.path ∷ rest) mid new stop)
      → StopsAtFile after all pending old new stop
  stops_here new stop at_most refused may_stop anyway = record {
    again = opens_again new at_most;
    reached = reached_here new stop refused;
    waits = waits_here new stop refused;
    same = gone.same;
    may_stop = stop_here stop may_stop;
    may_stop_anyway = anyway_here stop anyway;
  }

-- at the end
module _ {all pending : List ToSum} {after : Option Fault} {old new : TreeState} (none : pending ≡ [])
    (gone : GoneThrough all pending after old new) where
  behind_all : (bag : Bag) → Sees old (paths_to_sum all) bag
      → OpensNoFileEarly (faults_of_files bag after all) old new
  behind_all bag sees opened e f path c d = grind (arith, contains_nothing)

  pub goes_to_the_end : GoesThrough after all pending old new
  goes_to_the_end = record {
    keeps = gone.keeps;
    files = λ bag. files_behind bag all gone.passed pending gone.cut;
    none_early = λ bag sees files. behind_all bag sees;
  }

  pub finds_none : FindsFaults after all pending old new []
  finds_none = record {
    no_failure = gone.no_failure;
    opens = record {
      opened = paths_to_sum gone.passed;
      openings = gone.opened;
      left = ap paths_to_sum gone.cut ∙ paths_joined gone.passed pending;
    };
    ended = λ _. none;
    found = gone.same;
  }

-- what a source of validity has, when it was filled or refused
module _ (bag : Bag) (after : Option Fault) (pending new : List ToSum) (found : List Fault)
    (of : IsOfBag bag after pending found) (files : AreFilesOf bag new) where
  pub refilled : (more : List Fault) → found ≡ []
      → more ++ faults_of_files bag after new ≡ faults_of_files bag after pending
      → IsOfBag bag after new more
      × (more ++ faults_of_files bag after new ≡ found ++ faults_of_files bag after pending)
  refilled more none e = grind arith

  pub refused : faults_of_files bag after new ≡ faults_of_files bag after pending
      → IsOfBag bag after new found
      × (found ++ faults_of_files bag after new ≡ found ++ faults_of_files bag after pending)
  refused e = grind arith

pub rest_front : (fs gs : List Fault) → IsSome (first_of fs) → rest_of fs ++ gs ≡ rest_of (fs ++ gs)
rest_front fs gs some = grind arith

-- the first of the faults that were found is the first of all, since none are found only at the end
pub first_filled : (bag : Bag) (after : Option Fault) (left : List ToSum) (faults : List Fault)
    → (faults ≡ [] → left ≡ []) → first_of faults ≡ first_of (faults ++ faults_of_files bag after left)
first_filled bag after left [] ended = rw (ended refl) refl
first_filled bag after left (f ∷ faults) ended = refl
