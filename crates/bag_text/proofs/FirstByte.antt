-- The first byte that passes a test, by a search of bytes.
use Rattle.bag_text.proofs.Common.{All, Bool, List, None, Option, Some, arith, drop, false, get_or, inl, inr, length}
use Rattle.bag_text.proofs.Common.{not, position, refl, sym, take, true, unwrap_or, ℕ, ◌+◌, ◌-◌, ◌<◌, ◌≡◌, ◌≤◌}
use Rattle.bag_text.proofs.Common.{both_ways, cases_lt, false_from_ne_true, nat_tests, get_or-drop, get_or-take}
use Rattle.bag_text.proofs.Common.{get_or_default, length-drop, length-take-le, list_all_at, position_or_len_is}
use Rattle.bag_text.proofs.Common.{list_all, prefix_len, IfNone, IsFirstByte, Nowhere, Passes}

abbrev fails : (ℕ → Bool) → ℕ → Bool
fails p = λ x. not (p x)

place_len : (p : ℕ → Bool) (xs : List ℕ) (k : ℕ) → k < length xs → p (get_or xs k 0) ≡ true
    → ((i : ℕ) → i < k → p (get_or xs i 0) ≡ false) → prefix_len (fails p) xs ≡ k
place_len p xs k l e n = position_or_len_is p xs k 0 (omega arith) n (λ _. e)

no_place_len : (p : ℕ → Bool) (xs : List ℕ) → ((i : ℕ) → i < length xs → p (get_or xs i 0) ≡ false)
    → prefix_len (fails p) xs ≡ length xs
no_place_len p xs n = position_or_len_is p xs (length xs) 0 (omega arith) n (λ l. absurd (omega (arith, l)))

-- what a search for a byte found is where the first one is
pub first_byte : (p : ℕ → Bool) (xs : List ℕ) (r : Option ℕ) → IsFirstByte p xs r → r ≡ position p xs
first_byte p xs None h =
    rw (no_place_len p xs (λ i l. false_from_ne_true _ (h i (omega arith) l))) (grind (arith, nat_tests))
first_byte p xs (Some k) h = grind (arith, place_len, false_from_ne_true, nat_tests)

-- and where there is none, no byte passes
pub no_byte : (p : ℕ → Bool) (xs : List ℕ) (r : Option ℕ) → IsFirstByte p xs r → IfNone r (All (λ b. p b ≡ false) xs)
no_byte p xs None h = λ k d l. rw (get_or_default xs k d 0 l) (false_from_ne_true _ (h k (omega arith) l))
no_byte p xs (Some k) h = tt

-- as many bytes fail as stand before it, or all
pub first_len : (p : ℕ → Bool) (xs : List ℕ) (r : Option ℕ) → IsFirstByte p xs r
    → unwrap_or r (length xs) ≡ prefix_len (fails p) xs
first_len p xs None h = sym (no_place_len p xs (λ i l. false_from_ne_true _ (h i (omega arith) l)))
first_len p xs (Some k) h =
    sym (place_len p xs k h.0.high h.1 (λ i b. false_from_ne_true _ (h.0.before i (omega arith) b)))

-- no byte passes as far as a block in which each one fails
pub block_fails : (p : ℕ → Bool) (xs : List ℕ) (i n : ℕ) → i + n ≤ length xs → Nowhere (Passes p xs) 0 i
    → list_all (fails p) (take n (drop i xs)) ≡ true → Nowhere (Passes p xs) 0 (i + n)
block_fails p xs i n within before none k low high passes = elim (cases_lt k i) [
  | inl h ↦ before k low h passes
  | inr h ↦ (
      let step : i + (k - i) ≡ k = omega arith in
      let size = length-take-le n (drop i xs) (omega (arith, length-drop i xs)) in
      both_ways _ (list_all_at (fails p) (take n (drop i xs)) (k - i) 0 (omega arith)
      (rw (get_or-take n (drop i xs) (k - i) 0 (omega arith), get_or-drop i xs (k - i) 0, step, passes) refl)) none)
]
