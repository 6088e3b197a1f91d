-- Lists in the order of a text of each item, which no two items share.
use Rattle.bag_facts.proofs.Common.{◌≡◌, ◌≢◌, ℕ, ◌+◌, ◌<◌, ◌↔◌, inl, inr, false, List, [], ◌∷◌, length, get_or, map}
use Rattle.bag_facts.proofs.Common.{is_lt, arith, refl, sym, ap, ◌∙◌, subst, Contains, IsTrue, Result, Ok, Err, is_ok}
use Rattle.bag_facts.proofs.Common.{Ordering, Less, Equal, Greater, on, ordering_reverse, is_eq, eq_by_cmp}
use Rattle.bag_facts.proofs.Common.{nat_list_cmp_total, nat_cmp-IsAntisymmetric, slice_cmp-IsAntisymmetric}
use Rattle.bag_facts.proofs.Common.{IsPermutation, IsSortedByKey, IsBinarySearchResult, IsSearchInRange, IsDistinct}
use Rattle.bag_facts.proofs.Common.{cases_lt, on_total, get_or_default, IsPermutation-sym, Contains-permutation}
use Rattle.bag_facts.proofs.Common.{searchable_from_sorted, IsListOf, each_from_members, member_has, text_cmp}
use Rattle.bag_facts.proofs.Common.{tied_itself, IsStrictlySortedBy}
use Rattle.std.proofs.lemmas.Map.Keys.{IsDistinct-from_apart, IsDistinct-IsPermutation, apart_from_distinct}
use Rattle.std.proofs.lemmas.Map.Keys.{sorted_from_all_adjacent, Less-from_sorted}
use Rattle.bag_facts.proofs.Mapped.{contains_mapped, mapped_contains}

pub text_same : (a b : List ℕ) → text_cmp a b ≡ Equal → a ≡ b
text_same = slice_cmp-IsAntisymmetric nat_cmp-IsAntisymmetric

pub tie_case : (o : Ordering) → o ≢ Equal → is_eq o ≡ false
tie_case Equal other = absurd (other refl)
tie_case _ other = refl

not_tied : (a b : List ℕ) → a ≢ b → is_eq (text_cmp a b) ≡ false
not_tied a b other = tie_case (text_cmp a b) (λ e. other (text_same a b e))

pub reversed : (o : Ordering) → is_eq (ordering_reverse o) ≡ is_eq o
reversed Less = refl
reversed _ = refl

pub less_case : (o : Ordering) → is_lt (ordering_reverse o) ≡ false → is_eq o ≡ false → o ≡ Less
less_case Less h e = refl
less_case _ h e = cc

not_behind : (o : Ordering) → o ≡ Less → is_lt (ordering_reverse o) ≡ false
not_behind Greater e = cc
not_behind _ e = refl

item_at : {A : Type 0} (xs : List A) (i : ℕ) (d : A) → i < length xs → Contains xs (get_or xs i d)
item_at xs i d h = (i, h, get_or_default xs i (get_or xs i d) d h)

module _ {A : Type 0} (key : A → List ℕ) where
  flips : (x y : A) → eq_by_cmp (on key text_cmp) x y ≡ eq_by_cmp (on key text_cmp) y x
  flips x y = ap is_eq (nat_list_cmp_total.antisymm (key x) (key y)) ∙ reversed (text_cmp (key y) (key x))

  module _ (by : A → A → Ordering) (Member : A → Type 0) (never : (x : A) → by x x ≢ Less)
      (once : (x y : A) → Member x → Member y → key x ≡ key y → x ≡ y) where
    other_keys : (x y : A) → Member x → Member y → by x y ≡ Less → key x ≢ key y
    other_keys x y m n less same = never y (subst (λ z. by z y ≡ Less) (once x y m n same) less)

    all_differ : (xs : List A) → IsListOf by Member xs → IsDistinct (eq_by_cmp (on key text_cmp)) xs
    all_differ xs list =
        IsDistinct-from_apart (eq_by_cmp (on key text_cmp)) xs
        (λ i j d low high. not_tied _ _
        (other_keys (get_or xs i d) (get_or xs j d) ((list.members _).0 (item_at xs i d (omega arith)))
        ((list.members _).0 (item_at xs j d high)) (Less-from_sorted by xs i j d list.ascending low high)))

    -- a list sorted by its keys is that of its members in this order
    pub sorted_once : (xs ys : List A) (d : A) → IsListOf by Member xs → IsPermutation xs ys
        → IsSortedByKey key text_cmp ys → IsListOf (on key text_cmp) Member ys
    sorted_once xs ys d list perm sorted =
        let distinct = IsDistinct-IsPermutation (eq_by_cmp (on key text_cmp)) flips xs ys perm (all_differ xs list) in
        record {
          ascending = sorted_from_all_adjacent (on_total key nat_list_cmp_total) ys d
              (λ k h. less_case _
              (sym (ap is_lt (nat_list_cmp_total.antisymm (key (get_or ys (k + 1) d)) (key (get_or ys k d))))
              ∙ sorted k d (omega arith) h)
              (apart_from_distinct (eq_by_cmp (on key text_cmp)) ys k (k + 1) d distinct (omega arith) h));
          members = λ x. (
            λ c. (list.members x).0 (Contains-permutation ys xs x (IsPermutation-sym xs ys perm) c),
            λ m. Contains-permutation xs ys x perm ((list.members x).1 m),
          );
        }

  -- the texts of items that stand in their order ascend
  pub paths_ascend : (xs : List A) → IsStrictlySortedBy (on key text_cmp) xs → IsStrictlySortedBy text_cmp (map key xs)
  unfolding IsStrictlySortedBy
  paths_ascend [] s = tt
  paths_ascend (x ∷ xs) s = (
    each_from_members _ (map key xs)
        (λ p c. let at = contains_mapped key xs p c
        in subst (λ q. text_cmp (key x) q ≡ Less) at.2 (member_has _ xs at.0 s.0 at.1)),
    paths_ascend xs s.1,
  )

  -- items stand in the order of their texts where these ascend
  pub items_ascend : (xs : List A) → IsStrictlySortedBy text_cmp (map key xs) → IsStrictlySortedBy (on key text_cmp) xs
  unfolding IsStrictlySortedBy
  items_ascend [] s = tt
  items_ascend (x ∷ xs) s = (
    each_from_members _ xs (λ y c. member_has _ (map key xs) (key y) s.0 (mapped_contains key xs y c)),
    items_ascend xs s.1,
  )

  -- a search finds a key exactly where it is there
  pub found : (xs : List A) (d : A) (text : List ℕ) (r : Result ℕ ℕ) → IsStrictlySortedBy (on key text_cmp) xs
      → IsSearchInRange r (length xs) → IsBinarySearchResult (λ y. text_cmp (key y) text) xs r
      → IsTrue (is_ok r) ↔ Contains (map key xs) text
  found xs d text (Ok i) up within at = (
    λ _. subst (Contains (map key xs)) (text_same (key (get_or xs i d)) text (at d))
        (mapped_contains key xs (get_or xs i d) (item_at xs i d within)),
    λ _. refl,
  )
  found xs d text (Err i) up within at = (
    λ e. cc,
    λ c.
        let there = contains_mapped key xs text c in
        let parts = at (searchable_from_sorted nat_list_cmp_total key xs text
        (λ k e low high. ap is_lt (nat_list_cmp_total.antisymm (key (get_or xs (k + 1) e)) (key (get_or xs k e)))
        ∙ not_behind (text_cmp (key (get_or xs k e)) (key (get_or xs (k + 1) e)))
        (Less-from_sorted (on key text_cmp) xs k (k + 1) e up (omega arith) high))) in
        elim (cases_lt there.1.0 i) [
          | inl low ↦ cc (
            parts.0 there.1.0 there.0 (omega arith) low,
            there.1.2,
            there.2,
            tied_itself nat_list_cmp_total text,
          )
          | inr high ↦ cc (
            parts.1 there.1.0 there.0 high there.1.1,
            there.1.2,
            there.2,
            tied_itself nat_list_cmp_total text,
          )
        ],
  )
