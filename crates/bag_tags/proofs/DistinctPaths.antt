-- Paths are distinct just where they ascend once they are sorted.
use Rattle.bag_tags.proofs.Common.{Bool, List, [], arith, bytes_eq, false, get_or, length, refl, subst, sym, true, ℕ}
use Rattle.bag_tags.proofs.Common.{◌+◌, ◌<◌, ◌∙◌}
use Rattle.bag_tags.proofs.Common.{◌∷◌, ◌≡◌, get_or-map, length-map, IsDistinct-IsPermutation, IsDistinct-from_apart}
use Rattle.bag_tags.proofs.Common.{IsDistinct-from_sorted, apart_from_distinct, sorted_from_all_adjacent, Bor}
use Rattle.bag_tags.proofs.Common.{IsDistinct, IsTrue, ◌↔◌, Less, text_cmp, TextsAscend, lent_texts}
use Rattle.std.specs.List.{IsAllAdjacentAnswer}
use Rattle.std.specs.Cmp.Lexicographic.{nat_list_cmp_total, texts_ties}
use Rattle.std.specs.List.Sorted.{IsPermutation, IsSortedBy}
use Rattle.std.specs.declared.cmp.Ordering.{Ordering}
use Rattle.std.specs.Ordering.{is_lt, is_eq, eq_by_cmp, ordering_reverse}
use Rattle.std.proofs.lemmas.List.Sorted.{IsPermutation-sym, IsPermutation-map}

-- a text that is lent
abbrev Lent : Type 0
Lent = Bor (List ℕ)

abbrev pub lent_lt : Lent → Lent → Bool
lent_lt x y = is_lt (text_cmp x.now y.now)

less : (o : Ordering) → true ≡ is_lt o → o ≡ Less
less Less e = refl
less _ e = cc

-- a test of each pair of neighbours tells whether texts ascend
pub ascend_by_neighbours : (lent : List Lent) (r : Bool) → IsAllAdjacentAnswer (λ x y b. b ≡ lent_lt x y) lent r
    → IsTrue r ↔ TextsAscend lent
ascend_by_neighbours lent true h = (
  λ _ k d within. less (text_cmp (get_or lent k d).now (get_or lent (k + 1) d).now) (h k d within),
  λ _. refl,
)
ascend_by_neighbours [] false h = absurd (omega (arith, h.1))
ascend_by_neighbours (x ∷ xs) false h = (λ t. cc, λ up. let none = rw (up h.0 x h.1) at (h.2 x) in cc)

reversed_ties : (o p : Ordering) → o ≡ ordering_reverse p → is_eq o ≡ is_eq p
reversed_ties o p e = grind arith

flips : (xs ys : List ℕ) → bytes_eq xs ys ≡ bytes_eq ys xs
flips xs ys = texts_ties xs ys ∙ reversed_ties _ _ (nat_list_cmp_total.antisymm xs ys) ∙ sym (texts_ties ys xs)

ties : eq_by_cmp text_cmp ≡ bytes_eq
ties = λ i xs ys. sym (texts_ties xs ys) i

ascending_distinct : (lent : List Lent) → TextsAscend lent → IsDistinct bytes_eq (lent_texts lent)
ascending_distinct [] up = IsDistinct-from_apart bytes_eq [] (λ i j d low high. absurd (omega (arith, high)))
ascending_distinct (x ∷ xs) up =
    let lent : List Lent = x ∷ xs in
    let rising = sorted_from_all_adjacent nat_list_cmp_total (lent_texts lent) x.now (λ k h.
    let within : k + 1 < length lent = omega (arith, length-map lent (λ (y : Lent). y.now), h) in
    rw (
      get_or-map (λ (y : Lent). y.now) lent k x x.now (omega arith),
      get_or-map (λ (y : Lent). y.now) lent (k + 1) x x.now within,
    ) (up k x within)) in
    subst (λ e. IsDistinct e (lent_texts lent)) ties (IsDistinct-from_sorted text_cmp (lent_texts lent) rising)

only_less : (o p : Ordering) → is_eq o ≡ false → is_lt p ≡ false → p ≡ ordering_reverse o → o ≡ Less
only_less o p e h r = grind arith

distinct_ascending : (lent : List Lent) → IsSortedBy lent_lt lent → IsDistinct bytes_eq (lent_texts lent)
    → TextsAscend lent
distinct_ascending lent sorted distinct = λ k d within.
    let one = (get_or lent k d).now in
    let two = (get_or lent (k + 1) d).now in
    let room : k + 1 < length (lent_texts lent) = omega (arith, length-map lent (λ (y : Lent). y.now)) in
    let other : bytes_eq one two ≡ false =
    rw (
      get_or-map (λ (y : Lent). y.now) lent k d d.now (omega arith),
      get_or-map (λ (y : Lent). y.now) lent (k + 1) d d.now within,
    ) at
    (apart_from_distinct bytes_eq (lent_texts lent) k (k + 1) d.now distinct (omega arith) room) in
    only_less (text_cmp one two) (text_cmp two one) (sym (texts_ties one two) ∙ other) (sorted k d (omega arith) within)
    (nat_list_cmp_total.antisymm two one)

pub distinct_by_order : (lent sorted : List Lent) → IsPermutation lent sorted → IsSortedBy lent_lt sorted
    → TextsAscend sorted ↔ IsDistinct bytes_eq (lent_texts lent)
distinct_by_order lent sorted perm up =
    let texts = IsPermutation-map (λ (y : Lent). y.now) lent sorted perm in (
      λ rise. IsDistinct-IsPermutation bytes_eq flips (lent_texts sorted) (lent_texts lent)
          (IsPermutation-sym (lent_texts lent) (lent_texts sorted) texts) (ascending_distinct sorted rise),
      λ distinct. distinct_ascending sorted up
          (IsDistinct-IsPermutation bytes_eq flips (lent_texts lent) (lent_texts sorted) texts distinct),
    )
