-- Two lists of faults, of which the lesser first one is taken.
use Rattle.bag_sources.proofs.Common.{arith, inl, inr, ◌≡◌, ◌++◌, ◌∷◌, ℕ, Bool, true, List, [], Option, None, IsSome, sym}
use Rattle.bag_sources.proofs.Common.{◌∙◌, append-nil, Result, Ok, Err, OnOk, OnErr, if◌then◌else◌, IsStrictlySortedBy}
use Rattle.bag_sources.proofs.Common.{Less, Equal, Greater, append_cancel_left, contains_nothing, Bag, TreeState, Keeps}
use Rattle.bag_sources.proofs.Common.{Stop, fault_cmp, IsOutOfMemory, Fault, is_both, fronts, least_of, union, Opens}
use Rattle.bag_sources.proofs.Common.{OpensAgain, OpensNoFileEarly, first_of, rest_of, MayStopAnyway, Sees, Where}
use Rattle.bag_sources.proofs.Common.{rest_alone, rest_equal, rest_greater, rest_less, rest_other, false}
use Rattle.bag_sources.specs.declared.merge.Filled.{Filled}
use Rattle.bag_sources.specs.declared.merge.Filled.TheVariants.{Both}
use Rattle.bag_sources.proofs.Filling.{append_nothing, once, sees_later, sees_parts}

-- a source that may open nothing opens nothing
pub quiet_again : {old new : TreeState} {xs zs : List (List ℕ)} → xs ≡ [] → OpensAgain xs zs old new
    → new.openings ≡ old.openings
quiet_again none p = grind (arith, append_nothing, append-nil)

-- where nothing was to be opened and nothing was
pub opens_nothing : (old new : TreeState) (xs zs : List (List ℕ)) → xs ≡ [] → zs ≡ [] → new.openings ≡ old.openings
    → Opens xs zs old new
opens_nothing old new xs zs none left same =
    record { opened = []; openings = same ∙ sym (append-nil old.openings); left = none ∙ sym left }

-- a source with nothing to open was filled, or refused
pub quiet_fill : (old new : TreeState) (xs zs : List (List ℕ)) (P : Type 0) (r : Result (Unit {0}) Stop)
    → OnOk r (P → Opens xs zs old new) → OnErr r (P → OpensAgain xs zs old new)
    → P → xs ≡ [] → new.openings ≡ old.openings
quiet_fill old new xs zs P (Ok x) opens again p none = quiet_again none (once (opens p))
quiet_fill old new xs zs P (Err stop) opens again p none = quiet_again none (again p)

-- it names no file where it stops
pub quiet_stop : (old new : TreeState) (zs : List (List ℕ)) (stop : Stop) → zs ≡ [] → MayStopAnyway zs old new stop
    → IsOutOfMemory stop
quiet_stop old new zs stop none h =
    elim h.path [ inl m ↦ m | inr (rest, is) ↦ (let clash : [] ≡ stop.path ∷ rest = sym none ∙ is in cc) ]

-- what both may open is seen for each, for the second once the first was filled
pub sees_each : (turned : Bool) {old mid : TreeState} (xs ys : List (List ℕ)) (bag : Bag) → Keeps old mid
    → Sees old (if turned then ys ++ xs else xs ++ ys) bag
    → Sees old xs bag × Sees mid ys bag
sees_each true {old} xs ys bag k sees =
    let parts = sees_parts old ys xs bag sees in (parts.1, sees_later ys bag k parts.0)
sees_each false {old} xs ys bag k sees =
    let parts = sees_parts old xs ys bag sees in (parts.0, sees_later ys bag k parts.1)

pub both_filled : (filled : Filled) (a : Option Fault) → IsSome (if is_both filled then a else None) → filled ≡ Both
both_filled filled a some = grind arith

pub nothing_opened : (fs : List Fault) (old new : TreeState) → new.openings ≡ old.openings → OpensNoFileEarly fs old new
nothing_opened fs old new same opened e f path c d =
    grind (arith, append-nil old.openings, append_cancel_left, contains_nothing)

pub known_at : (b : Bool) (K : Type 0) → b ≡ true → Where b K → K
known_at b K e h = grind arith

pub some_at : (b : Bool) (a : Option Fault) → IsSome (if b then a else None) → IsSome a
some_at b a some = grind arith

-- by what the sources show
module _ (fs gs : List Fault) (p : IsStrictlySortedBy fault_cmp fs) (q : IsStrictlySortedBy fault_cmp gs)
    (a b : Option Fault) (known : (a ≡ first_of fs) × (b ≡ first_of gs)) where
  pub left_less : fronts a b ≡ Less → (more : List Fault) → more ≡ rest_of fs → union more gs ≡ rest_of (union fs gs)
  left_less e more is = grind (arith, union, fronts, rest_alone, rest_less)

  pub left_greater : fronts a b ≡ Greater → (more : List Fault) → more ≡ rest_of gs
      → union fs more ≡ rest_of (union fs gs)
  left_greater e more is = grind (arith, union, fronts, rest_other, rest_greater)

  pub left_equal : fronts a b ≡ Equal → IsSome (least_of a b) → (more others : List Fault) → more ≡ rest_of fs
      → others ≡ rest_of gs → union more others ≡ rest_of (union fs gs)
  left_equal e some more others is are = grind (arith, rest_equal)
