-- What a power cut leaves of changes that begin where an earlier program was killed.
use Rattle.bag_tree.proofs.Common.{◌≡◌, ◌≢◌, ◌++◌, ◌∷◌, ◌⊎◌, ℕ, zero, suc, inl, inr, Bool, true, false}
use Rattle.bag_tree.proofs.Common.{List, [], None, Some, is_some, cond, refl, ap, sym, ◌∙◌, subst}
use Rattle.bag_tree.proofs.Common.{append-nil, append_assoc, length, take, false≢true, is_base_name, file}
use Rattle.bag_tree.proofs.Common.{nat_list_cmp_total, get-insert, text_cmp, eq_by_cmp, is_within}
use Rattle.std.proofs.Common.{not}
use Rattle.std.specs.FinMap as fin
use Rattle.std.specs.FinMap.{get-retain_keys}
use Rattle.std.specs.FinSet as set
use Rattle.bag_tree.proofs.Events.{created_again, done_nothing}
use Rattle.bag_tree.proofs.FileChanges.{changes_are_durable, cuts_leave_first_changes}
use Rattle.bag_tree.proofs.Parents.{base_not_under}
use Rattle.bag_tree.proofs.PutFile.{no_content, no_file, not_held}
use Rattle.bag_tree.proofs.Runs.{first_change_nothing, front_of_two, left_between, nothing_left}
use Rattle.bag_tree.proofs.SameText.{exact_texts, one_text, text_itself}
use Rattle.bag_tree.proofs.Within.{itself_within, not_within}
use Rattle.bag_tree.specs.Asked.{ChangeNothing}
use Rattle.bag_tree.specs.Bag.{Bag, has_file}
use Rattle.bag_tree.specs.Cut.{MayLeave, hold, lose, without}
use Rattle.bag_tree.specs.FileChanges.{AsksFirstOf, CanChangeAll, ChangesAsk, IsAfterFirst, IsPerhapsWithBegun}
use Rattle.bag_tree.specs.FileChanges.{after_changes}
use Rattle.bag_tree.specs.Resumed.{DurableBagsAreDurableOnceSynced, IsDurableOnceSynced, IsSameBut}
use Rattle.bag_tree.specs.Resumed.{ResumedChangesAreDurable, ResumedCutsLeaveFirstChanges}
use Rattle.bag_tree.specs.Steps.{create}
use Rattle.bag_tree.specs.declared.event.DeviceEvent.{DeviceEvent}
use Rattle.bag_tree.specs.declared.event.DeviceEvent.TheVariants as event
use Rattle.bag_tree.specs.declared.file_change.FileChange.{FileChange}
use Rattle.bag_tree.specs.declared.file_change.FileChange.TheVariants.{Put, Remove}

pub durable_once_synced : DurableBagsAreDurableOnceSynced
durable_once_synced beside trail first bag durable left may =
    let between = left_between trail (event.SyncFolder [] ∷ []) first left may in
    inl (nothing_left (event.SyncFolder [] ∷ []) between.0 left (tt, tt) between.2 ∙ durable between.0 between.1)

-- ---- a file that is begun beside the others, whatever its bytes are

-- where it is removed, no more is left of it than of another
lost_with_it : (beside found : List ℕ) (d : Bag) → lose beside (create beside found d) ≡ lose beside d
unfolding lose
lost_with_it beside found d =
    let files = fin.same_map nat_list_cmp_total exact_texts
    (without beside (create beside found d).files) (without beside d.files) same in
    λ i. record { files = files i; folders = set.remove d.folders beside }
  where
    at : (files : fin.FinMap text_cmp (List ℕ)) (q : List ℕ)
        → fin.get (without beside files) q ≡ cond (not (is_within beside q)) (fin.get files q) None
    at files q =
        get-retain_keys files (λ p. not (is_within beside p)) q (λ x is.
        ap (λ p. not (is_within beside p)) (sym (exact_texts q x is)))

    by_name : (q : List ℕ) (b : Bool) → eq_by_cmp text_cmp q beside ≡ b
        → cond (not (is_within beside q)) (cond b (Some found) (fin.get d.files q)) None
        ≡ cond (not (is_within beside q)) (fin.get d.files q) None
    by_name q true is =
        let within : is_within beside q ≡ true =
        ap (is_within beside) (one_text q beside is) ∙ itself_within beside in
        ap (λ t. cond (not t) (Some found) None) within
        ∙ sym (ap (λ t. cond (not t) (fin.get d.files q) None) within)
    by_name q false is = refl

    same : (q : List ℕ) → fin.get (without beside (create beside found d).files) q
        ≡ fin.get (without beside d.files) q
    same q =
        at (create beside found d).files q
        ∙ ap (λ o. cond (not (is_within beside q)) o None) (get-insert nat_list_cmp_total d.files beside found q)
        ∙ by_name q (eq_by_cmp text_cmp q beside) refl ∙ sym (at d.files q)

-- where another is removed, it stays
lost_beside_it : (beside name found : List ℕ) (d : Bag) → is_within name beside ≡ false
    → lose name (create beside found d) ≡ create beside found (lose name d)
unfolding lose
lost_beside_it beside name found d apart =
    let files = fin.same_map nat_list_cmp_total exact_texts
    (without name (create beside found d).files) (fin.insert (without name d.files) beside found) same in
    λ i. record { files = files i; folders = set.remove d.folders name }
  where
    at : (files : fin.FinMap text_cmp (List ℕ)) (q : List ℕ)
        → fin.get (without name files) q ≡ cond (not (is_within name q)) (fin.get files q) None
    at files q =
        get-retain_keys files (λ p. not (is_within name p)) q (λ x is.
        ap (λ p. not (is_within name p)) (sym (exact_texts q x is)))

    by_name : (q : List ℕ) (b : Bool) → eq_by_cmp text_cmp q beside ≡ b
        → cond (not (is_within name q)) (cond b (Some found) (fin.get d.files q)) None
        ≡ cond b (Some found) (cond (not (is_within name q)) (fin.get d.files q) None)
    by_name q true is =
        ap (λ t. cond (not t) (Some found) None) (ap (is_within name) (one_text q beside is) ∙ apart)
    by_name q false is = refl

    same : (q : List ℕ) → fin.get (without name (create beside found d).files) q
        ≡ fin.get (fin.insert (without name d.files) beside found) q
    same q =
        at (create beside found d).files q
        ∙ ap (λ o. cond (not (is_within name q)) o None) (get-insert nat_list_cmp_total d.files beside found q)
        ∙ by_name q (eq_by_cmp text_cmp q beside) refl
        ∙ ap (λ o. cond (eq_by_cmp text_cmp q beside) (Some found) o) (sym (at d.files q))
        ∙ sym (get-insert nat_list_cmp_total (without name d.files) beside found q)

still_there : (beside name : List ℕ) (d : Bag) → is_within name beside ≡ false → has_file d beside ≡ true
    → has_file (lose name d) beside ≡ true
unfolding lose
still_there beside name d apart there =
    ap is_some (get-retain_keys d.files (λ p. not (is_within name p)) beside (λ x is.
    ap (λ p. not (is_within name p)) (sym (exact_texts beside x is)))
    ∙ ap (λ t. cond (not t) (fin.get d.files beside) None) apart) ∙ there

-- the same bag, or that with these bytes in the file beside
abbrev pub IsLike : List ℕ → List ℕ → Bag → Bag → Type 0
IsLike beside found d e = (e ≡ d) ⊎ ((has_file d beside ≡ true) × (e ≡ create beside found d))

module _ (beside : List ℕ) (beside_is : is_base_name beside ≡ true) (found : List ℕ) where
  pub record AreMadeAlike (changes : List FileChange) (bag other : Bag) : Type 0 where
    pub can : CanChangeAll beside changes other
    pub like : (k : ℕ) → IsLike beside found (after_changes (take k changes) bag) (after_changes (take k changes) other)

  same_made : (changes : List FileChange) (bag other : Bag) → CanChangeAll beside changes bag → other ≡ bag
      → AreMadeAlike changes bag other
  same_made changes bag other can is = record {
    can = subst (CanChangeAll beside changes) (sym is) can;
    like = λ k. inl (ap (after_changes (take k changes)) is);
  }

  -- the changes can be made of the one as of the other, and make the like
  pub made_alike : (changes : List FileChange) (bag : Bag) → CanChangeAll beside changes bag
      → has_file bag beside ≡ true → AreMadeAlike changes bag (create beside found bag)
  made_alike [] bag can there = record { can = tt; like = like }
    where
      like : (k : ℕ) → IsLike beside found (after_changes (take k []) bag)
          (after_changes (take k []) (create beside found bag))
      like zero = inr (there, refl)
      like (suc k) = inr (there, refl)
  made_alike (Put name bytes ∷ changes) bag (now, later) there =
      absurd (false≢true (sym (no_content (file bag beside)
      (no_file bag beside now.2.no_file beside (itself_within beside) (file bag beside) refl)) ∙ there))
  made_alike (Remove name ∷ changes) bag (now, later) there =
      by_name (made_alike changes (lose name bag) later) (eq_by_cmp text_cmp beside name) refl
    where
      with_first : AreMadeAlike changes (lose name bag) (lose name (create beside found bag))
          → AreMadeAlike (Remove name ∷ changes) bag (create beside found bag)
      with_first more = record { can = (now, more.can); like = like }
        where
          like : (k : ℕ) → IsLike beside found (after_changes (take k (Remove name ∷ changes)) bag)
              (after_changes (take k (Remove name ∷ changes)) (create beside found bag))
          like zero = inr (there, refl)
          like (suc k) = more.like k

      by_name : (has_file (lose name bag) beside ≡ true
          → AreMadeAlike changes (lose name bag) (create beside found (lose name bag)))
          → (b : Bool) → eq_by_cmp text_cmp beside name ≡ b
          → AreMadeAlike (Remove name ∷ changes) bag (create beside found bag)
      by_name on true is =
          let same : name ≡ beside = sym (one_text beside name is) in
          with_first (same_made changes (lose name bag) (lose name (create beside found bag)) later
          (ap (λ n. lose n (create beside found bag)) same ∙ lost_with_it beside found bag
          ∙ ap (λ n. lose n bag) (sym same)))
      by_name on false is =
          let apart : is_within name beside ≡ false =
          not_within name beside (λ within. elim within [
            | inl at ↦ false≢true (sym is ∙ ap (eq_by_cmp text_cmp beside) (sym at) ∙ text_itself beside)
            | inr below ↦ base_not_under beside name below.0 beside_is below.1
          ]) in
          with_first (subst (AreMadeAlike changes (lose name bag)) (sym (lost_beside_it beside name found bag apart))
          (on (still_there beside name bag apart there)))

  held_alike : (changes : List FileChange) (bag : Bag) → CanChangeAll beside changes bag
      → AreMadeAlike changes bag (hold beside found bag)
  held_alike changes bag can = by_file (has_file bag beside) refl
    where
      by_file : (b : Bool) → has_file bag beside ≡ b → AreMadeAlike changes bag (hold beside found bag)
      by_file true there =
          subst (AreMadeAlike changes bag) (sym (ap (λ t. cond t (create beside found bag) bag) there))
          (made_alike changes bag can there)
      by_file false none = same_made changes bag (hold beside found bag) can (not_held beside found bag none)

  -- so what is left of the one is left of the other
  begun_alike : (bag other left : Bag) → IsLike beside found bag other → IsPerhapsWithBegun beside other left
      → IsPerhapsWithBegun beside bag left
  begun_alike bag other left (inl same) is = subst (λ d. IsPerhapsWithBegun beside d left) same is
  begun_alike bag other left (inr (there, same)) (inl is) = inr (found, is ∙ same)
  begun_alike bag other left (inr (there, same)) (inr (more, is)) =
      inr (more, is ∙ ap (create beside more) same ∙ created_again beside found more bag)

  first_alike : (changes : List FileChange) (bag other left : Bag) → AreMadeAlike changes bag other
      → IsAfterFirst beside changes other left → IsAfterFirst beside changes bag left
  first_alike changes bag other left alike is = record {
    k = is.k;
    within = is.within;
    is = begun_alike (after_changes (take is.k changes) bag) (after_changes (take is.k changes) other) left
        (alike.like is.k) is.is;
  }

-- ---- the base folder is synced first

pub begins_with : (beside : List ℕ) (changes : List FileChange) (before es : List DeviceEvent) (e : DeviceEvent)
    → ChangesAsk beside changes before (e ∷ es) → e ≡ event.SyncFolder []
begins_with beside [] before es e none = cc
begins_with beside (Put name bytes ∷ changes) before es e (now, later, is, asks, rest) =
    let all = is ∙ ap (λ (xs : List DeviceEvent). xs ++ later) asks.asked in cc
begins_with beside (Remove name ∷ changes) before es e (now, later, is, asks, rest) =
    let all = is ∙ ap (λ (xs : List DeviceEvent). xs ++ later) asks.asked in cc

-- a sync of the base folder may come first
sync_first : (es : List DeviceEvent) (bag left : Bag) → MayLeave es bag left
    → MayLeave (event.SyncFolder [] ∷ es) bag left
sync_first es bag left may = (bag, inl (sym (done_nothing (event.SyncFolder []) bag tt)), may)

-- what was there when it was synced
pub at_sync : (before es : List DeviceEvent) (first left : Bag) → MayLeave (before ++ event.SyncFolder [] ∷ es) first left
    → (d : Bag) × MayLeave (before ++ event.SyncFolder [] ∷ []) first d × MayLeave (event.SyncFolder [] ∷ es) d left
at_sync before es first left may =
    let between = left_between (before ++ event.SyncFolder [] ∷ []) es first left
    (subst (λ (xs : List DeviceEvent). MayLeave xs first left) (sym (append_assoc before (event.SyncFolder [] ∷ []) es))
    may) in
    (between.0, between.1, sync_first es between.0 left between.2)

module _ (beside : List ℕ) (changes : List FileChange) (first bag : Bag) (before : List DeviceEvent)
    (is : is_base_name beside ≡ true) (can : CanChangeAll beside changes bag)
    (durable : IsDurableOnceSynced beside before first bag) where
  abbrev Result : Bag → Type 0
  Result left = MayLeave before first left ⊎ IsAfterFirst beside changes bag left

  from_there : (d left : Bag) → IsSameBut beside bag d → (all front rest : List DeviceEvent)
      → ChangesAsk beside changes before all → all ≡ front ++ rest → MayLeave front d left
      → IsAfterFirst beside changes bag left
  from_there d left (inl same) all front rest asks parts may =
      cuts_leave_first_changes beside changes bag before all is can
      (record {
        first = all;
        rest = [];
        asked = subst (ChangesAsk beside changes before) (sym (append-nil all)) asks;
        refused = [];
        are_refused = tt;
        is = sym (append-nil all);
      }) front rest parts left (subst (λ b. MayLeave front b left) same may)
  from_there d left (inr (found, same)) all front rest asks parts may =
      let alike = held_alike beside is found changes bag can in
      first_alike beside is found changes bag (hold beside found bag) left alike
      (cuts_leave_first_changes beside changes (hold beside found bag) before all is alike.can
      (record {
        first = all;
        rest = [];
        asked = subst (ChangesAsk beside changes before) (sym (append-nil all)) asks;
        refused = [];
        are_refused = tt;
        is = sym (append-nil all);
      }) front rest parts left (subst (λ b. MayLeave front b left) same may))

  of_front : (front rest : List DeviceEvent) → ChangesAsk beside changes before (front ++ rest) → (left : Bag)
      → MayLeave (before ++ front) first left → Result left
  of_front [] rest asks left may =
      inl (subst (λ (xs : List DeviceEvent). MayLeave xs first left) (append-nil before) may)
  of_front (e ∷ front) rest asks left may =
      let sync = begins_with beside changes before (front ++ rest) e asks in
      let there = at_sync before front first left
      (subst (λ (x : DeviceEvent). MayLeave (before ++ x ∷ front) first left) sync may) in
      inr (from_there there.0 left (durable there.0 there.1) (e ∷ (front ++ rest)) (event.SyncFolder [] ∷ front) rest
      asks (ap (λ (x : DeviceEvent). x ∷ (front ++ rest)) sync) there.2)

  of_some : (events : List DeviceEvent) → AsksFirstOf (ChangesAsk beside changes) before events
      → (front back : List DeviceEvent) → events ≡ front ++ back → (left : Bag)
      → MayLeave (before ++ front) first left → Result left
  of_some events some front back parts left may =
      elim (front_of_two some.first some.refused front back (sym some.is ∙ parts)) [
        | inl (rest, front_is) ↦
            of_front front (rest ++ some.rest)
            (subst (ChangesAsk beside changes before)
            (ap (λ (xs : List DeviceEvent). xs ++ some.rest) front_is ∙ append_assoc front rest some.rest) some.asked)
            left may
        | inr (more, rest, front_is, refused_is) ↦
            let between = left_between (before ++ some.first) more first left
            (subst (λ (xs : List DeviceEvent). MayLeave xs first left)
            (ap (λ (xs : List DeviceEvent). before ++ xs) front_is ∙ sym (append_assoc before some.first more)) may) in
            let are = first_change_nothing more rest (subst ChangeNothing refused_is some.are_refused) in
            let same = nothing_left more between.0 left are between.2 in
            subst Result (sym same) (of_front some.first some.rest some.asked between.0 between.1)
      ]

  -- after all of them
  after_there : (d left : Bag) → IsSameBut beside bag d → (all : List DeviceEvent)
      → ChangesAsk beside changes before all → MayLeave all d left → IsSameBut beside (after_changes changes bag) left
  after_there d left (inl same) all asks may =
      inl (changes_are_durable beside changes bag before all is can asks left
      (subst (λ b. MayLeave all b left) same may))
  after_there d left (inr (found, same)) all asks may =
      let alike = held_alike beside is found changes bag can in
      let made : left ≡ after_changes changes (hold beside found bag) =
      changes_are_durable beside changes (hold beside found bag) before all is alike.can asks left
      (subst (λ b. MayLeave all b left) same may) in
      by_like (after_changes changes (hold beside found bag)) made
      (subst (λ (xs : List FileChange). IsLike beside found (after_changes xs bag)
      (after_changes xs (hold beside found bag))) (take_all changes) (alike.like (length changes)))
    where
      take_all : (xs : List FileChange) → take (length xs) xs ≡ xs
      take_all [] = refl
      take_all (x ∷ xs) = ap (λ (ys : List FileChange). x ∷ ys) (take_all xs)

      by_like : (other : Bag) → left ≡ other → IsLike beside found (after_changes changes bag) other
          → IsSameBut beside (after_changes changes bag) left
      by_like other made (inl like) = inl (made ∙ like)
      by_like other made (inr (there, like)) =
          inr (
            found,
            made ∙ like
                ∙ sym (ap (λ t. cond t (create beside found (after_changes changes bag)) (after_changes changes bag)) there),
          )

  after_all : (events : List DeviceEvent) → changes ≢ [] → ChangesAsk beside changes before events → (left : Bag)
      → MayLeave (before ++ events) first left → IsSameBut beside (after_changes changes bag) left
  after_all events some asks left may = by_events events asks may
    where
      none_asked : (cs : List FileChange) → ChangesAsk beside cs before [] → cs ≡ []
      none_asked [] none = refl
      none_asked (Put name bytes ∷ cs) (now, later, is, asks, rest) =
          let all = is ∙ ap (λ (xs : List DeviceEvent). xs ++ later) asks.asked in cc
      none_asked (Remove name ∷ cs) (now, later, is, asks, rest) =
          let all = is ∙ ap (λ (xs : List DeviceEvent). xs ++ later) asks.asked in cc

      by_events : (es : List DeviceEvent) → ChangesAsk beside changes before es → MayLeave (before ++ es) first left
          → IsSameBut beside (after_changes changes bag) left
      by_events [] none may = absurd (some (none_asked changes none))
      by_events (e ∷ es) asks may =
          let sync = begins_with beside changes before es e asks in
          let there = at_sync before es first left
          (subst (λ (x : DeviceEvent). MayLeave (before ++ x ∷ es) first left) sync may) in
          after_there there.0 left (durable there.0 there.1) (event.SyncFolder [] ∷ es)
          (subst (λ (x : DeviceEvent). ChangesAsk beside changes before (x ∷ es)) sync asks) there.2

pub resumed_cuts : ResumedCutsLeaveFirstChanges
resumed_cuts beside changes first bag before events is can durable some front back parts left may =
    of_some beside changes first bag before is can durable events some front back parts left may

pub resumed_changes_are_durable : ResumedChangesAreDurable
resumed_changes_are_durable beside changes first bag before events is can some durable asks left may =
    after_all beside changes first bag before is can durable events some asks left may
