-- What is opened, seen and left after when one source is filled, and then another.
use Rattle.bag_sources.proofs.Common.{arith, Bool, true, false, Option, None, Some, is_some, ◌≡◌, ◌⊎◌, ◌++◌, ◌∷◌, inl, inr}
use Rattle.bag_sources.proofs.Common.{ℕ, List, [], Contains, refl, ap, sym, ◌∙◌, subst, append_assoc, Result, OnOk, OnErr}
use Rattle.bag_sources.proofs.Common.{append_cancel_left, contains_behind, contains_front, contains_back, contains_either}
use Rattle.bag_sources.proofs.Common.{Bag, NothingFailed, TreeState, Keeps, Stop, Fault, IsOutOfMemory, memory_then}
use Rattle.bag_sources.proofs.Common.{later_refusal, IsRefusedAmong, NoFaultBeforeStop, Opens, OpensAgain, OpensNoFileEarly}
use Rattle.bag_sources.proofs.Common.{NoFaultBefore, option_copied, first_of, rest_of, AllBelow, Sees, MayStopAnyway}
use Rattle.bag_sources.proofs.Common.{MayStopFilling, Bor}

module _ {A : Type 0} where
  pub append_nothing : (xs ys : List A) → xs ++ ys ≡ [] → (xs ≡ []) × (ys ≡ [])
  append_nothing [] ys e = (refl, e)
  append_nothing (x ∷ xs) ys e = cc

pub sees_parts : (state : TreeState) (xs ys : List (List ℕ)) (bag : Bag) → Sees state (xs ++ ys) bag
    → Sees state xs bag × Sees state ys bag
sees_parts state xs ys bag sees = grind (arith, append_nothing)

pub sees_later : {old mid : TreeState} (paths : List (List ℕ)) (bag : Bag) → Keeps old mid → Sees old paths bag
    → Sees mid paths bag
sees_later paths bag k sees = grind arith

-- some files were opened, and then others
module _ {old mid : TreeState} {xs ys : List (List ℕ)} (p : Opens xs ys old mid) where
  pub once : OpensAgain xs ys old mid
  once = record { passed = p.opened; left = p.left; openings = inl p.openings }

  pub opens_on : {new : TreeState} {zs : List (List ℕ)} → Opens ys zs mid new → Opens xs zs old new
  opens_on q = grind (arith, append_assoc)

  pub again_on : {new : TreeState} {zs : List (List ℕ)} → OpensAgain ys zs mid new → OpensAgain xs zs old new
  again_on {new} {zs} q = record {
    passed = p.opened ++ q.passed;
    left = p.left ∙ ap (λ l. p.opened ++ l) q.left ∙ sym (append_assoc p.opened q.passed zs);
    openings = elim q.openings [
      | inl e ↦ inl (rw (e, p.openings) (simp append_assoc))
      | inr (path, rest, is, e) ↦ inr (path, rest, is, rw (e, p.openings) (simp append_assoc))
    ];
  }

  pub reached_on : (new : TreeState) (path : List ℕ) → IsRefusedAmong ys mid new path → IsRefusedAmong xs old new path
  reached_on new path (passed, rest, cut, refused) = grind (arith, append_assoc)

  -- others are to be opened after them
  pub opens_front : (zs : List (List ℕ)) → Opens (xs ++ zs) (ys ++ zs) old mid
  opens_front zs =
      record { opened = p.opened; openings = p.openings; left = ap (λ l. l ++ zs) p.left ∙ append_assoc p.opened ys zs }

module _ {old new : TreeState} {xs zs : List (List ℕ)} (p : OpensAgain xs zs old new) where
  -- what was opened of the files that were to be opened, and the others
  pub opened_front : (paths : List (List ℕ)) × (more : List (List ℕ)) × (new.openings ≡ old.openings ++ paths)
      × (xs ≡ paths ++ more)
  opened_front = grind (arith, append_assoc)

  -- what was opened was to be opened
  pub again_within : (opened : List (List ℕ)) → new.openings ≡ old.openings ++ opened → (path : List ℕ)
      → Contains opened path → Contains xs path
  again_within opened e path c =
      let front = opened_front in
      let same : opened ≡ front.0 = append_cancel_left old.openings opened front.0 (sym e ∙ front.2) in
      subst (λ l. Contains l path) (sym front.3)
      (contains_front front.0 front.1 path (subst (λ l. Contains l path) same c))

-- no file after a later fault was opened, and then none after those that were left
pub behind_on : (first later : List Fault) {old mid new : TreeState} {xs ys zs : List (List ℕ)}
    → OpensAgain xs ys old mid → OpensAgain ys zs mid new
    → OpensNoFileEarly first old mid → OpensNoFileEarly later mid new
    → ((f : Fault) → Contains later f → Contains first f) → OpensNoFileEarly later old new
behind_on first later {old} p q before after within all e f path c d =
    let one = opened_front p in
    let two = opened_front q in
    let same : all ≡ one.0 ++ two.0 =
    append_cancel_left old.openings all (one.0 ++ two.0)
    (sym e ∙ two.2 ∙ ap (λ o. o ++ two.0) one.2 ∙ append_assoc old.openings one.0 two.0) in
    elim (contains_either one.0 two.0 path (subst (λ l. Contains l path) same d)) [
      | inl a ↦ before one.0 one.2 f path (within f c) a
      | inr b ↦ after two.0 two.2 f path c b
    ]

module _ (fs gs : List Fault) (old new : TreeState) (xs : List (List ℕ)) (apart : NoFaultBefore gs xs) where
  -- the first source alone was filled
  pub behind_first : {zs : List (List ℕ)} → OpensAgain xs zs old new → OpensNoFileEarly fs old new
      → OpensNoFileEarly (fs ++ gs) old new
  behind_first p behind opened e f path c d = elim (contains_either fs gs f c) [
    | inl a ↦ behind opened e f path a d
    | inr b ↦ apart f path b (again_within p opened e path d)
  ]

  -- and then it stopped at one of its files
  pub waits_first : (stop : Stop) → IsOutOfMemory stop ⊎ IsRefusedAmong xs old new stop.path → NoFaultBeforeStop fs stop.path
      → NoFaultBeforeStop (fs ++ gs) stop.path
  waits_first stop (inl memory) waits some f path c d before = absurd (some memory.1)
  waits_first stop (inr (passed, rest, cut, refused)) waits some f path c d before = elim (contains_either fs gs f c) [
    | inl a ↦ waits some f path a d before
    | inr b ↦ apart f path b
        (rw cut (contains_back passed (stop.path ∷ rest) path (contains_front (stop.path ∷ []) rest path d))) before
  ]

module _ {old new : TreeState} {zs : List (List ℕ)} {stop : Stop} where
  -- what refused the first source
  pub stop_front : (ys : List (List ℕ)) → MayStopFilling zs old new stop → MayStopFilling (zs ++ ys) old new stop
  stop_front ys h = grind arith

  -- and what refused the second
  pub stop_later : {mid : TreeState} → Keeps old mid → NothingFailed old mid → MayStopFilling zs mid new stop
      → MayStopFilling zs old new stop
  stop_later k no_failure h = grind (arith, later_refusal, memory_then)

  -- the same whatever the tree
  pub anyway_front : (ys : List (List ℕ)) → MayStopAnyway zs old new stop → MayStopAnyway (zs ++ ys) old new stop
  anyway_front ys h = grind arith

  pub anyway_later : {mid : TreeState} → Keeps old mid → NothingFailed old mid → MayStopAnyway zs mid new stop
      → MayStopAnyway zs old new stop
  anyway_later k no_failure h = grind (arith, memory_then, later_refusal)

-- the first source is filled: what it has left is as it was, and of its files the first were opened
pub front_same : (fs gs more : List Fault) (xs zs : List (List ℕ)) (A B InOrder : Type 0) → A × (more ≡ fs)
    → AllBelow fs gs → (InOrder → NoFaultBefore gs xs) → B
    → (InOrder → (passed : List (List ℕ)) × (xs ≡ passed ++ zs))
    → ((A × AllBelow more gs × (InOrder → NoFaultBefore gs zs)) × B) × (more ++ gs ≡ fs ++ gs)
front_same fs gs more xs zs A B InOrder (a, same) below apart b cut = (
  (
    (
      a,
      subst (λ l. AllBelow l gs) (sym same) below,
      λ ordered f path c d. let left =
          cut ordered in apart ordered f path c
          (subst (λ l. Contains l path) (sym left.1) (contains_back left.0 zs path d)),
    ),
    b,
  ),
  ap (λ l. l ++ gs) same,
)

-- what is shown
pub some_shown : (r : Option (Bor Fault)) {a : Option Fault} {b : Bool} → option_copied r ≡ a → b ≡ is_some r → b ≡ true
    → is_some a ≡ true
some_shown r e is holds = grind arith

pub none_shown : (r : Option (Bor Fault)) {a : Option Fault} {b : Bool} → option_copied r ≡ a → b ≡ is_some r
    → b ≡ false → a ≡ None
none_shown r e is fails = grind arith

pub first_front : (a : Option Fault) (fs gs : List Fault) → is_some a ≡ true → a ≡ first_of fs → a ≡ first_of (fs ++ gs)
first_front a fs gs some e = grind arith

-- the first of two lists is taken away
pub taken_first : (a : Option Fault) (fs gs more : List Fault) → is_some a ≡ true
    → ((f : Fault) → a ≡ Some f → first_of fs ≡ Some f) → more ≡ rest_of fs
    → AllBelow fs gs → AllBelow more gs × (more ++ gs ≡ rest_of (fs ++ gs))
taken_first None fs gs more some first e below = let clash : false ≡ true = some in cc
taken_first (Some f) [] gs more some first e below = let clash : None ≡ Some f = first f refl in cc
taken_first (Some f) (x ∷ fs) gs more some first e below = grind (arith, contains_behind)

-- a call opens some files
pub opened_by : {old new : TreeState} {xs zs : List (List ℕ)} (r : Result (Unit {0}) Stop)
    → OnOk r (Opens xs zs old new) → OnErr r (OpensAgain xs zs old new)
    → OpensAgain xs zs old new
opened_by r opens again = grind (arith, once)
