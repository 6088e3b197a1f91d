-- Sets that a list has: of nothing, of one, of two sets, of a set for each member of another; and what can be decided.
use Rattle.bag_stages.proofs.Common.{arith, ◌≡◌, ◌⊎◌, inl, inr, Bool, true, false, List, [], ◌∷◌, ◌++◌, refl, sym}
use Rattle.bag_stages.proofs.Common.{subst, Contains, Less, contains_cases, contains_first, contains_behind}
use Rattle.bag_stages.proofs.Common.{contains_nothing, nothing_listed, one_listed, HasList}
use Rattle.bag_stages.proofs.Sorted.{either_listed}

abbrev pub Decided : Type 0 → Type 0
Decided D = D ⊎ (¬ D)

module _ {A : Type 0} where
  pub nothing : (P : A → Type 0) → ((x : A) → ¬ (P x)) → HasList P
  nothing P none = ([], (nothing_listed (λ x y. Less) P none).members)

  pub only : (P : A → Type 0) (x : A) → P x → ((y : A) → P y → y ≡ x) → HasList P
  only P x is same = (x ∷ [], (one_listed (λ x y. Less) P x is same).members)

  pub same_set : (P Q : A → Type 0) → ((x : A) → P x → Q x) → ((x : A) → Q x → P x) → HasList P → HasList Q
  same_set P Q to from p = (p.0, λ x. (λ c. to x ((p.1 x).0 c), λ q. (p.1 x).1 (from x q)))

  pub either : (P Q : A → Type 0) → HasList P → HasList Q → HasList (λ x. P x ⊎ Q x)
  either P Q p q = (p.0 ++ q.0, either_listed P Q p.0 q.0 p.1 q.1)

  -- a set that has members only where this holds
  pub where_so : (D : Type 0) (P : A → Type 0) → Decided D → HasList P → HasList (λ x. D × P x)
  where_so D P (inl d) p = same_set P _ (λ x h. (d, h)) (λ x h. h.1) p
  where_so D P (inr not) p = nothing _ (λ x h. not h.0)

  -- one member, where this holds
  pub one_where : (x : A) (D : Type 0) → Decided D → HasList (λ y. D × (y ≡ x))
  one_where x D d = where_so D (λ y. y ≡ x) d (only _ x refl (λ y e. e))

module _ {I A : Type 0} (P : I → A → Type 0) (each : (i : I) → HasList (P i)) where
  along : (items : List I) → HasList (λ x. (i : I) × Contains items i × P i x)
  along [] = nothing _ (λ x h. contains_nothing h.0 h.1)
  along (i ∷ items) =
      same_set (λ x. P i x ⊎ ((j : I) × Contains items j × P j x)) _
      (λ x h. elim h [
        | inl p ↦ (i, contains_first i items, p)
        | inr more ↦ (more.0, contains_behind i items more.0 more.1, more.2)
      ])
      (λ x h. elim (contains_cases i items h.0 h.1)
      [ inl e ↦ inl (subst (λ j. P j x) (sym e) h.2) | inr d ↦ inr (h.0, d, h.2) ])
      (either (P i) _ (each i) (along items))

  -- a set for each member of another
  pub for_each : (Q : I → Type 0) → HasList Q → HasList (λ x. (i : I) × Q i × P i x)
  for_each Q q = same_set _ _ (λ x h. (h.0, (q.1 h.0).0 h.1, h.2)) (λ x h. (h.0, (q.1 h.0).1 h.1, h.2)) (along q.0)

  -- a set for each of a type of which a list has all
  pub for_all : (items : List I) → ((i : I) → Contains items i) → HasList (λ x. (i : I) × P i x)
  for_all items has = same_set _ _ (λ x h. (h.0, h.2)) (λ x h. (h.0, has h.0, h.1)) (along items)

-- those of a set of which this holds
pub those : {A : Type 0} (P D : A → Type 0) → HasList P → ((x : A) → Decided (D x)) → HasList (λ x. P x × D x)
those P D p decided =
    same_set _ _ (λ x h. subst (λ y. P y × D y) (sym h.2.1) (h.1, h.2.0)) (λ x h. (x, h.0, (h.1, refl)))
    (for_each (λ i x. D i × (x ≡ i)) (λ i. one_where i (D i) (decided i)) P p)

-- what can be decided
pub false_unless : (b : Bool) → (b ≡ true → ⊥) → b ≡ false
false_unless true not = absurd (not refl)
false_unless false not = refl

pub true_or_not : (b : Bool) → Decided (b ≡ true)
true_or_not true = inl refl
true_or_not false = inr (λ e. cc)

pub false_or_not : (b : Bool) → Decided (b ≡ false)
false_or_not true = inr (λ e. cc)
false_or_not false = inl refl

pub both_decided : (D E : Type 0) → Decided D → Decided E → Decided (D × E)
both_decided D E d e = grind arith

pub not_decided : (D : Type 0) → Decided D → Decided (¬ D)
not_decided D d = grind arith

-- a set that a list has has a member or none
pub some_decided : {A : Type 0} (P : A → Type 0) → HasList P → Decided ((x : A) × P x)
some_decided P ([], are) = inr (λ h. contains_nothing h.0 ((are h.0).1 h.1))
some_decided P (x ∷ xs, are) = inl (x, (are x).0 (contains_first x xs))

pub none_decided : {A : Type 0} (P : A → Type 0) → HasList P → Decided ((x : A) → ¬ (P x))
none_decided P ([], are) = inl (λ x h. contains_nothing x ((are x).1 h))
none_decided P (x ∷ xs, are) = inr (λ none. none x ((are x).0 (contains_first x xs)))
