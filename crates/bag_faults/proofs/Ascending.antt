-- An ascending list is determined by its members.
use Rattle.bag_faults.proofs.Common.{◌≡◌, zero, suc, List, [], ◌∷◌, refl, sym, subst, ◌⊎◌, inl, inr, ◌↔◌, true, arith}
use Rattle.bag_faults.proofs.Common.{Contains, Ordering, Less, Equal, eq_by_cmp, IsTotalOrder, AllByRecursion}
use Rattle.bag_faults.proofs.Common.{OneOfThree, IsStrictlySortedBy}

module _ {A : Type 0} {R : A → A → Ordering} (total : IsTotalOrder R) where
  pub not_both : (x y : A) → R x y ≡ Less → R y x ≡ Less → ⊥
  not_both x y p q = grind arith

  none_in_empty : (z : A) → Contains [] z → ⊥
  none_in_empty z (k, inside, is) = absurd (omega arith)

  member_of_cons : (x : A) (xs : List A) (z : A) → Contains (x ∷ xs) z → (x ≡ z) ⊎ Contains xs z
  member_of_cons x xs z (zero, inside, is) = inl is
  member_of_cons x xs z (suc k, inside, is) = inr (k, omega arith, is)

  member_after : (x : A) (xs : List A) (z : A) → Contains xs z → Contains (x ∷ xs) z
  member_after x xs z (k, inside, is) = (suc k, omega arith, is)

  at_member : (P : A → Type 0) (xs : List A) (z : A) → AllByRecursion P xs → Contains xs z → P z
  at_member P [] z all (k, inside, is) = absurd (omega arith)
  at_member P (x ∷ xs) z all has =
      elim (member_of_cons x xs z has) [ inl same ↦ subst P same all.0 | inr later ↦ at_member P xs z all.1 later ]

  -- an element that is below all of a list is not in it
  not_in_above : (x : A) (xs : List A) → AllByRecursion (λ y. R x y ≡ Less) xs → Contains xs x → ⊥
  not_in_above x xs all has = let self = at_member (λ y. R x y ≡ Less) xs x all has in not_both x x self self

  heads_tie : (x y : A) (xs ys : List A) → AllByRecursion (λ z. R x z ≡ Less) xs → AllByRecursion (λ z. R y z ≡ Less) ys
      → Contains (y ∷ ys) x → Contains (x ∷ xs) y → x ≡ y
  heads_tie x y xs ys above_x above_y has_x has_y =
      elim (member_of_cons y ys x has_x) [
        | inl same ↦ sym same
        | inr later ↦ elim (member_of_cons x xs y has_y) [
          | inl same ↦ same
          | inr other ↦ absurd
              (not_both x y (at_member (λ z. R x z ≡ Less) xs y above_x other)
              (at_member (λ z. R y z ≡ Less) ys x above_y later))
        ]
      ]

  -- what is in the rest of one list is in the rest of the other
  rest_in : (x y : A) (xs ys : List A) → x ≡ y → AllByRecursion (λ z. R x z ≡ Less) xs
      → ((z : A) → Contains (x ∷ xs) z → Contains (y ∷ ys) z)
      → (z : A) → Contains xs z → Contains ys z
  rest_in x y xs ys same above_x moves z has =
      grind (arith, member_of_cons y ys z (moves z (member_after x xs z has)), member_after, not_in_above)

  pub same_lists : (xs ys : List A) → IsStrictlySortedBy R xs → IsStrictlySortedBy R ys
      → ((z : A) → Contains xs z → Contains ys z) → ((z : A) → Contains ys z → Contains xs z) → xs ≡ ys
  unfolding IsStrictlySortedBy
  same_lists [] [] p q there back = refl
  same_lists [] (y ∷ ys) p q there back = absurd (none_in_empty y (back y (zero, omega arith, refl)))
  same_lists (x ∷ xs) [] p q there back = absurd (none_in_empty x (there x (zero, omega arith, refl)))
  same_lists (x ∷ xs) (y ∷ ys) p q there back =
      let same = heads_tie x y xs ys p.0 q.0 (there x (zero, omega arith, refl)) (back y (zero, omega arith, refl)) in
      let rest = same_lists xs ys p.1 q.1 (rest_in x y xs ys same p.0 there) (rest_in y x ys xs (sym same) q.0 back) in
      λ i. same i ∷ rest i

  pub self_ties : (x : A) → R x x ≡ Equal
  self_ties x = grind arith

  pub not_less_than_itself : (x y : A) → x ≡ y → R x y ≡ Less → ⊥
  not_less_than_itself x y same less =
      let self : R x x ≡ Less = subst (λ z. R x z ≡ Less) (sym same) less in not_both x x self self

  pub one_of_three : ((x y : A) → R x y ≡ Equal → x ≡ y) → (x y : A) → OneOfThree (R x y ≡ Less) (x ≡ y) (R y x ≡ Less)
  one_of_three tied x y = grind (arith, not_less_than_itself, not_both)

  pub equal_is_one : ((x y : A) → R x y ≡ Equal → x ≡ y) → (x y : A) → (eq_by_cmp R x y ≡ true) ↔ (x ≡ y)
  equal_is_one tied x y = grind (arith, self_ties)
