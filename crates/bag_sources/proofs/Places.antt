-- What stands at a place of a list, and after it.
use Rattle.bag_sources.proofs.Common.{◌≡◌, ◌<◌, ◌+◌, ◌∷◌, ℕ, zero, suc, List, [], length, drop, slice_get, unwrap_or, Some}
use Rattle.bag_sources.proofs.Common.{Contains, refl, ap, subst, arith, Less, contains_first, fault_cmp, Fault}
use Rattle.bag_sources.proofs.Common.{get_or_from_slice_get, slice_get_within, Less-from_sorted, rest_of, ◌++◌, filter}
use Rattle.bag_sources.proofs.Common.{take, Ordering, is_lt, IsTotalOrder, AllByRecursion, fault_cmp_total}
use Rattle.bag_sources.proofs.Common.{All-from_recursion, All-get_or, drop-drop, sym, ◌∙◌}
use Rattle.std.specs.List.Sorted.{IsStrictlySortedBy}
use Rattle.bag_sources.specs.Cursor.{CursorCutsList}

pub at_place : (n : ℕ) (faults : List Fault) → n < length faults → (f : Fault) × (slice_get faults n ≡ Some f)
at_place n [] less = absurd (omega arith)
at_place zero (f ∷ faults) less = (f, refl)
at_place (suc n) (f ∷ faults) less = at_place n faults (omega arith)

-- a fault of the rest stands so much later
pub at_later : {A : Type 0} (n k : ℕ) (faults : List A) (f : A) → slice_get (drop n faults) k ≡ Some f
    → slice_get faults (n + k) ≡ Some f
at_later zero k faults f at = let same : k ≡ 0 + k = omega arith in subst (λ i. slice_get faults i ≡ Some f) same at
at_later (suc n) k [] f at = cc
at_later (suc n) k (x ∷ faults) f at =
    let same : suc n + k ≡ suc (n + k) = omega arith in rw same (at_later n k faults f at)

-- what stands at a place stands in what is left from there on
pub contains_from : (k : ℕ) (faults : List Fault) (f : Fault) → slice_get faults k ≡ Some f → Contains (drop k faults) f
contains_from k [] f at = cc
contains_from zero (x ∷ faults) f at =
    let same : x ≡ f = ap (λ o. unwrap_or o x) at in subst (Contains (x ∷ faults)) same (contains_first x faults)
contains_from (suc k) (x ∷ faults) f at = contains_from k faults f at

-- of two places of an ascending list the later has the greater fault
pub less_at : (faults : List Fault) (i k : ℕ) (f g : Fault) → IsStrictlySortedBy fault_cmp faults → i < k
    → slice_get faults i ≡ Some f → slice_get faults k ≡ Some g → fault_cmp f g ≡ Less
less_at faults i k f g sorted less at later =
    rw (get_or_from_slice_get faults i f f at, get_or_from_slice_get faults k g f later) at
    (Less-from_sorted fault_cmp faults i k f sorted less (slice_get_within faults k g later))

-- the rest of a list
pub drop_one : {A : Type 0} (xs : List A) → drop 1 xs ≡ rest_of xs
drop_one [] = refl
drop_one (x ∷ xs) = refl

pub drop_rest : {A : Type 0} (xs : List A) (n : ℕ) → drop (n + 1) xs ≡ rest_of (drop n xs)
drop_rest xs n = sym (drop-drop 1 n xs) ∙ drop_one (drop n xs)

pub rest_ascends : (faults : List Fault) → IsStrictlySortedBy fault_cmp faults
    → IsStrictlySortedBy fault_cmp (rest_of faults)
unfolding IsStrictlySortedBy
rest_ascends [] s = tt
rest_ascends (f ∷ faults) s = s.1

-- a cursor cuts a list
module _ {A : Type 0} {R : A → A → Ordering} (total : IsTotalOrder R) where
  -- all of a list is kept where all of it is above
  all_above : (f : A) (xs : List A) → AllByRecursion (λ y. R f y ≡ Less) xs → filter (λ y. is_lt (R f y)) xs ≡ xs
  all_above f [] all = refl
  all_above f (x ∷ xs) all = rw all.0 (ap (λ ys. x ∷ ys) (all_above f xs all.1))

  member_at : (P : A → Type 0) (xs : List A) (n : ℕ) (f : A) → AllByRecursion P xs → slice_get xs n ≡ Some f → P f
  member_at P xs n f all at =
      rw (get_or_from_slice_get xs n f f at) at
      (All-get_or P xs n f (slice_get_within xs n f at) (All-from_recursion P xs all))

  pub cut_at_member : (xs : List A) (n : ℕ) (f : A) → IsStrictlySortedBy R xs → slice_get xs n ≡ Some f
      → take (suc n) xs ++ filter (λ y. is_lt (R f y)) xs ≡ xs
  unfolding IsStrictlySortedBy
  cut_at_member [] n f sorted at = cc
  cut_at_member (x ∷ xs) zero f sorted at = grind (arith, unwrap_or, all_above)
  cut_at_member (x ∷ xs) (suc n) f sorted at = grind (arith, member_at, cut_at_member xs n f sorted.1 at)

pub cursor_cuts_list : CursorCutsList
cursor_cuts_list faults n f sorted at =
    let one_more : n + 1 ≡ suc n = omega arith in rw one_more (cut_at_member fault_cmp_total faults n f sorted at)
