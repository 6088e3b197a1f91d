-- A walk over a report.
use Rattle.bag_sources.proofs.Common.{arith, ◌≡◌, ◌++◌, ◌∷◌, inl, inr, ℕ, List, [], true, Option, None, Some, Contains, ap}
use Rattle.bag_sources.proofs.Common.{subst, is_lt, Less, contains_behind, contains_cases, contains_either, contains_first}
use Rattle.bag_sources.proofs.Common.{contains_front, contains_nothing, member_has, TreeState, fault_cmp, Fault}
use Rattle.bag_sources.proofs.Common.{not_less_than_itself, fault_cmp_total, Check, above, is_above, Opens, OpensAgain}
use Rattle.bag_sources.proofs.Common.{OpensNoFileEarly, StillWait, first_of, rest_of, Gives, IsReportAfter, Result, Ok}
use Rattle.bag_sources.proofs.Common.{Err, IfErr, IfOk, MatchResult, OnErr, OnOk, Bor, option_copied, Keeps, Stop}
use Rattle.bag_sources.proofs.Common.{MayStopAnyway, MayStopFilling, went, IsNextOf, MayStopStep, refl}
use Rattle.std.specs.List.Sorted.{IsStrictlySortedBy}
use Rattle.bag_sources.proofs.Chosen.{less_is}

-- without a position each fault is
pub above_none : (faults : List Fault) → faults ≡ above None faults
above_none [] = refl
above_none (f ∷ faults) = ap (λ fs. f ∷ fs) (above_none faults)

-- what is above a fault that is above a position is above the position
above_on : (position : Option Fault) (f g : Fault) → is_above position f ≡ true → fault_cmp f g ≡ Less
    → is_above position g ≡ true
above_on position f g a less = grind (arith, less_is, fault_cmp_total.trans)

module _ (check : Check) (position : Option Fault) where
  -- after its first fault stands what is above that
  stands_on : (f : Fault) (faults : List Fault) → IsReportAfter check position (f ∷ faults)
      → IsReportAfter check (Some f) faults
  unfolding IsStrictlySortedBy
  stands_on f faults h = record {
    ascending = h.ascending.1;
    members = λ g. (
      λ c. (
        ((h.members g).0 (contains_behind f faults g c)).0,
        ap is_lt (member_has (λ w. fault_cmp f w ≡ Less) faults g h.ascending.0 c),
      ),
      λ m. (let less : fault_cmp f g ≡ Less = less_is _ m.1 in
          let ahead : Contains (f ∷ faults) g =
          (h.members g).1 (m.0, above_on position f g ((h.members f).0 (contains_first f faults)).1 less) in
          elim (contains_cases f faults g ahead)
          [ inl e ↦ absurd (not_less_than_itself fault_cmp_total f g e less) | inr d ↦ d ]),
    );
  }

  gives_first : (left : List Fault) → IsReportAfter check position left
      → Gives check position (first_of left) (rest_of left)
  unfolding IsStrictlySortedBy
  gives_first [] h = ((λ f m. contains_nothing f ((h.members f).1 m)), h)
  gives_first (f ∷ faults) h = (
    (
      (h.members f).0 (contains_first f faults),
      (λ g m. elim (contains_cases f faults g ((h.members g).1 m))
          [ inl e ↦ inl e | inr d ↦ inr (member_has (λ w. fault_cmp f w ≡ Less) faults g h.ascending.0 d) ]),
    ),
    stands_on f faults h,
  )

  -- the first is given, and the rest is left
  pub gives : (left after : List Fault) (shown : Option Fault) → shown ≡ first_of left → after ≡ rest_of left
      → IsReportAfter check position left → Gives check position shown after
  gives left after shown e d h = grind (arith, gives_first)

  -- so it is after a step, and after a refusal the position is the same
  pub gives_on : (answer : Result (Unit {0}) Stop) (left after : List Fault) (shown : Option Fault)
      → MatchResult answer (λ _. (shown ≡ first_of left) × (after ≡ rest_of left))
      (λ _. (shown ≡ None) × (after ≡ left))
      → IsReportAfter check position left
      → MatchResult answer (λ _. Gives check position shown after) (λ _. IsReportAfter check position after)
  gives_on (Ok _) left after shown next stands = gives left after shown next.0 next.1 stands
  gives_on (Err stop) left after shown next stands = rw next.1 stands

-- files before which a fault stands wait on
module _ (files : List (List ℕ)) {before after : List (List ℕ)} (left : List Fault) {old new : TreeState}
    (behind : OpensNoFileEarly left old new) where
  pub still_wait : Opens before after old new → StillWait files left before → StillWait files left after
  still_wait p waits f path c d ahead =
      elim (contains_either p.opened after path (subst (λ l. Contains l path) p.left (waits f path c d ahead))) [
        | inl u ↦ absurd (behind p.opened p.openings f path c u ahead)
        | inr v ↦ v
      ]

  pub wait_again : OpensAgain before after old new → StillWait files left before → StillWait files left after
  wait_again p waits f path c d ahead =
      elim (contains_either p.passed after path (subst (λ l. Contains l path) p.left (waits f path c d ahead))) [
        | inl u ↦ absurd (elim p.openings [
          | inl e ↦ behind p.passed e f path c u ahead
          | inr (last, rest, is, e) ↦ behind (p.passed ++ last ∷ []) e f path c
              (contains_front p.passed (last ∷ []) path u)
              ahead
        ])
        | inr v ↦ v
      ]

-- so it is after a step, and after a refusal
pub wait_on : (files before after : List (List ℕ)) (left : List Fault) (old new : TreeState)
    (answer : Result (Unit {0}) Stop)
    → OpensNoFileEarly left old new → OnOk answer (Opens before after old new)
    → OnErr answer (OpensAgain before after old new)
    → StillWait files left before → StillWait files left after
wait_on files before after left old new (Ok _) behind opens again waits =
    still_wait files left behind opens waits
wait_on files before after left old new (Err stop) behind opens again waits =
    wait_again files left behind again waits

-- what a walk lends: the fault that is lent is the next
pub lends_next : (check : Check) (position : Option Fault) (answer : Result (Option (Bor Fault)) Stop)
    (shown : Option Fault) (after : List Fault) (Q : Type 0)
    → MatchResult (went answer) (λ _. Gives check position shown after) (λ _. Q)
    → IfOk answer (λ f. option_copied f ≡ shown)
    → IfOk answer (λ f. IsNextOf check position (option_copied f))
lends_next check position answer shown after Q given e = grind arith

-- a step that was refused may stop so
pub stops_there : (answer : Result (Option (Bor Fault)) Stop) (old new : TreeState) (before after : List (List ℕ))
    (IsOf : Type 0) → Keeps old new
    → OnErr (went answer) (OpensAgain before after old new)
    → IfErr (went answer) (λ stop. IsOf → MayStopFilling after old new stop)
    → IfErr (went answer) (MayStopAnyway after old new) → IfErr answer (MayStopStep before old IsOf)
stops_there (Ok f) old new before after IsOf keeps again may anyway = tt
stops_there (Err stop) old new before after IsOf keeps again may anyway =
    record { new = new; left = after; keeps = keeps; opened = again; anyway = anyway; refused = may }
