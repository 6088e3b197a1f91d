-- Members of a list and their places, of a mapped list, of a filtered one, and the first items of a list.
use Rattle.bag_facts.proofs.Common.{◌≡◌, ◌<◌, ◌⊎◌, inl, inr, ℕ, ◌+◌, List, [], ◌∷◌, map, length, take}
use Rattle.bag_facts.proofs.Common.{get_or, Bool, true, false, Some, Contains, refl, ap, sym, subst, cond, arith}
use Rattle.bag_facts.proofs.Common.{filter, contains_cases, contains_first, contains_behind, contains_nothing}
use Rattle.bag_facts.proofs.Common.{contains_either}
use Rattle.std.proofs.lemmas.Option.{get_or_from_slice_get, slice_get_read, slice_get_within}
use Rattle.std.specs.List.{slice_get}
pub use Rattle.bag_tree.proofs.OneMore.{take_one_more}

-- the place of a member
pub place_of : {A : Type 0} (xs : List A) (x : A) → Contains xs x → (k : ℕ) × (slice_get xs k ≡ Some x)
place_of xs x (k, lt, at) = (k, slice_get_read xs (length xs) k x refl lt (sym at))

pub at_place : {A : Type 0} (xs : List A) (k : ℕ) (x : A) → slice_get xs k ≡ Some x → Contains xs x
at_place xs k x e = (k, slice_get_within xs k x e, get_or_from_slice_get xs k x x e)

pub mapped_contains : {A B : Type 0} (g : A → B) (xs : List A) (x : A) → Contains xs x → Contains (map g xs) (g x)
mapped_contains g [] x c = absurd (contains_nothing x c)
mapped_contains g (y ∷ xs) x c = elim (contains_cases y xs x c) [
  | inl e ↦ subst (Contains (g y ∷ map g xs)) (ap g e) (contains_first (g y) (map g xs))
  | inr d ↦ contains_behind (g y) (map g xs) (g x) (mapped_contains g xs x d)
]

pub contains_mapped : {A B : Type 0} (g : A → B) (xs : List A) (y : B) → Contains (map g xs) y
    → (x : A) × Contains xs x × (g x ≡ y)
contains_mapped g [] y c = absurd (contains_nothing y c)
contains_mapped g (x ∷ xs) y c = elim (contains_cases (g x) (map g xs) y c) [
  | inl e ↦ (x, contains_first x xs, e)
  | inr d ↦ (let more = contains_mapped g xs y d in (more.0, contains_behind x xs more.0 more.1, more.2))
]

module _ {A : Type 0} (p : A → Bool) where
  -- what a filter keeps passes it, and was there
  pub kept : (xs : List A) (x : A) → Contains (filter p xs) x → (p x ≡ true) × Contains xs x
  kept [] x c = absurd (contains_nothing x c)
  kept (y ∷ xs) x c = grind (arith, contains_cases, contains_first, contains_behind, kept xs x)

  passed_by : (b : Bool) (y : A) (xs : List A) (x : A) → p y ≡ b → p x ≡ true
      → (Contains xs x → Contains (filter p xs) x)
      → Contains (y ∷ xs) x → Contains (cond b (y ∷ filter p xs) (filter p xs)) x
  passed_by true y xs x is passes rest c = grind (arith, contains_cases, contains_first, contains_behind)
  passed_by false y xs x is passes rest c = grind (arith, contains_cases)

  -- what was there and passes is kept
  pub passed : (xs : List A) (x : A) → p x ≡ true → Contains xs x → Contains (filter p xs) x
  passed [] x passes c = absurd (contains_nothing x c)
  passed (y ∷ xs) x passes c = passed_by (p y) y xs x refl passes (passed xs x passes) c

-- a member of them is one of the first, or the one more
pub taken_cases : {A : Type 0} (xs : List A) (i : ℕ) (x y : A) → i < length xs → x ≡ get_or xs i x
    → Contains (take (i + 1) xs) y → Contains (take i xs) y ⊎ (x ≡ y)
taken_cases xs i x y lt e c =
    elim (contains_either (take i xs) (x ∷ []) y (subst (λ ys. Contains ys y) (take_one_more xs i x lt e) c)) [
      | inl a ↦ inl a
      | inr b ↦ elim (contains_cases x [] y b) [ inl same ↦ inr same | inr none ↦ absurd (contains_nothing y none) ]
    ]
