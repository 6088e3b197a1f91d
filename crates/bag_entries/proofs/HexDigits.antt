-- Hex digits of either case and the bytes that they spell.
use Rattle.bag_entries.proofs.Common.{Bool, List, [], ap, append_assoc, arith, length, nat_lt, refl, slice_index}
use Rattle.bag_entries.proofs.Common.{slice_set, take, true, ℕ, ◌%◌, ◌&&◌, ◌*◌, ◌++◌, ◌+◌, ◌/◌, ◌<◌, ◌==◌, ◌∙◌, ◌∷◌, ◌≡◌}
use Rattle.bag_entries.proofs.Common.{agree_below_at, and_parts, eqb-true, nat_tests, map-append, take_more, take_more_set}
use Rattle.bag_entries.proofs.Common.{is_ascii_hexdigit, to_ascii_lowercase, str_to_ascii_lowercase, encode_lower}
use Rattle.bag_entries.proofs.Common.{lower_digits, encode_with}

abbrev pub value : ℕ → ℕ
value c = c % 16 + 9 * (c / 64)

-- ---- the digits one by one

abbrev reads : ℕ → Bool
reads c = nat_lt (value c) 16 && slice_index lower_digits (value c) == to_ascii_lowercase c

reads_digit : (c : ℕ) → is_ascii_hexdigit c ≡ true → reads c ≡ true
reads_digit c is =
    let small : c < 128 = grind (arith, nat_tests) in
    (and_parts (is_ascii_hexdigit c) (reads c)
    (agree_below_at (λ k. is_ascii_hexdigit k && reads k) is_ascii_hexdigit 128 c refl small ∙ is)).1

pub small_value : (c : ℕ) → is_ascii_hexdigit c ≡ true → value c < 16
small_value c is = grind (arith, and_parts, nat_lt, slice_index, reads_digit, nat_tests)

pub digit_of_value : (c : ℕ) → is_ascii_hexdigit c ≡ true → slice_index lower_digits (value c) ≡ to_ascii_lowercase c
digit_of_value c is =
    eqb-true _ _ (and_parts (nat_lt (value c) 16) (slice_index lower_digits (value c) == to_ascii_lowercase c)
    (reads_digit c is)).1

-- ---- pairs of digits

encoded_more : (t xs : List ℕ) (b : ℕ)
    → encode_with t (xs ++ b ∷ []) ≡ encode_with t xs ++ slice_index t (b / 16) ∷ slice_index t (b % 16) ∷ []
unfolding encode_with
encoded_more t [] b = refl
encoded_more t (x ∷ xs) b = ap (λ ys. slice_index t (x / 16) ∷ slice_index t (x % 16) ∷ ys) (encoded_more t xs b)

-- one byte more is read
pub pair_read : (digits bytes : List ℕ) (k high low : ℕ) → 2 * k + 1 < length digits → k < length bytes → high < 16
    → low < 16
    → slice_index lower_digits high ≡ to_ascii_lowercase (slice_index digits (2 * k))
    → slice_index lower_digits low ≡ to_ascii_lowercase (slice_index digits (2 * k + 1))
    → encode_lower (take k bytes) ≡ str_to_ascii_lowercase (take (2 * k) digits)
    → encode_lower (take (k + 1) (slice_set bytes k (high * 16 + low)))
    ≡ str_to_ascii_lowercase (take (2 * (k + 1)) digits)
pair_read digits bytes k high low fits room h l eh el before =
    let first : (high * 16 + low) / 16 ≡ high = omega arith in
    let second : (high * 16 + low) % 16 ≡ low = omega arith in
    let two : 2 * (k + 1) ≡ 2 * k + 1 + 1 = omega arith in
    rw (
      two,
      take_more digits (2 * k + 1) 0 (omega arith),
      take_more digits (2 * k) 0 (omega arith),
      take_more_set bytes k (high * 16 + low) room,
      encoded_more lower_digits (take k bytes) (high * 16 + low),
      first,
      second,
      eh,
      el,
    )
    (simp (map-append, append_assoc)
    (ap (λ front. front
    ++ to_ascii_lowercase (slice_index digits (2 * k)) ∷ to_ascii_lowercase (slice_index digits (2 * k + 1))
    ∷ []) before))
