-- What a function picks out of a list, and whether some element passes a test.
use Rattle.bag_read.proofs.Common.{Bool, List, None, Option, Some, [], ap, arith, inl, inr, refl, subst, sym, true, ◌∙◌}
use Rattle.bag_read.proofs.Common.{◌∷◌, ◌≡◌, Any-from_list_any, list_any_at, AllByRecursion, cons_option, list_any}
use Rattle.bag_read.proofs.Common.{Contains, filter_map, Ordering, Less, contains_behind, contains_cases}
use Rattle.bag_read.proofs.Common.{contains_first, contains_nothing, each_from_members, member_has, IsStrictlySortedBy}
pub use Rattle.bag_read.proofs.Common.{and_parts as both_true}

module _ {A : Type 0} (p : A → Bool) where
  -- an element that passes the test
  pub any_from : (xs : List A) (x : A) → Contains xs x → p x ≡ true → list_any p xs ≡ true
  any_from xs x (k, low, at) e = list_any_at p xs k x low (ap p at ∙ e)

  pub from_any : (xs : List A) → list_any p xs ≡ true → (x : A) × Contains xs x × (p x ≡ true)
  from_any xs e = let (k, x, low, at, is) = Any-from_list_any p xs e in (x, (k, low, at), is)

module _ {A B : Type 0} (f : A → Option B) where
  abbrev pub IsPicked : List A → B → Type 0
  IsPicked xs y = (x : A) × Contains xs x × (f x ≡ Some y)

  -- what is picked out comes from an element
  pub picked : (xs : List A) (y : B) → Contains (filter_map f xs) y → IsPicked xs y
  picked [] y c = absurd (contains_nothing y c)
  picked (x ∷ xs) y c = grind (arith, contains_first x xs, contains_cases, contains_behind, picked xs y)

  kept_behind : (o : Option B) (ys : List B) (y : B) → Contains ys y → Contains (cons_option o ys) y
  kept_behind None ys y c = c
  kept_behind (Some z) ys y c = contains_behind z ys y c

  -- and what an element gives is picked out
  pub is_picked : (xs : List A) (x : A) (y : B) → Contains xs x → f x ≡ Some y → Contains (filter_map f xs) y
  is_picked [] x y c e = absurd (contains_nothing x c)
  is_picked (z ∷ xs) x y c e =
      elim (contains_cases z xs x c) [
        | inl same ↦ subst (λ o. Contains (cons_option o (filter_map f xs)) y) (sym (ap f same ∙ e))
            (contains_first y (filter_map f xs))
        | inr d ↦ kept_behind (f z) (filter_map f xs) y (is_picked xs x y d e)
      ]

  module _ (cmp : A → A → Ordering) (order : B → B → Ordering)
      (keeps : (x y : A) (u v : B) → f x ≡ Some u → f y ≡ Some v → cmp x y ≡ Less → order u v ≡ Less) where
    below_picked : (x : A) (u : B) (xs : List A) → f x ≡ Some u → AllByRecursion (λ y. cmp x y ≡ Less) xs
        → AllByRecursion (λ v. order u v ≡ Less) (filter_map f xs)
    below_picked x u xs e less =
        each_from_members _ (filter_map f xs) (λ v c.
        let p = picked xs v c in keeps x p.0 u v e p.2 (member_has _ xs p.0 less p.1))

    -- what is picked out of an ascending list ascends
    pub ascending_picked : (xs : List A) → IsStrictlySortedBy cmp xs → IsStrictlySortedBy order (filter_map f xs)
    unfolding IsStrictlySortedBy
    ascending_picked [] up = tt
    ascending_picked (x ∷ xs) up =
        (elim (f x) as (λ o. f x ≡ o → IsStrictlySortedBy order (cons_option o (filter_map f xs))) [
          | None ↦ λ e. ascending_picked xs up.1
          | Some u ↦ λ e. (below_picked x u xs e up.0, ascending_picked xs up.1)
        ]) refl
