-- Words and numbers at the front of a text.
use Rattle.std.proofs.Common.{◌≡◌, ℕ, ◌<◌, ◌^◌, ◌++◌, ◌∷◌, List, Option, Some, None, drop, length, ap, ◌∙◌}
use Rattle.std.proofs.Common.{arith, decimal, get_or, lit<}
use Rattle.std.specs.Prelude.{MatchOption}
use Rattle.std.specs.Borrow.{Bor}
use Rattle.std.specs.Str.Pattern.{StripsPrefix, FindsTextPrefix}
use Rattle.std.proofs.Math.Seq.{drop-append_seam}
use Rattle.std.proofs.lemmas.Fmt.{decimal_is_IsNumeral_wide}
use Rattle.std.proofs.lemmas.Str.Parse.{digit_at}
use Rattle.std.proofs.lemmas.Str.Pattern.{IsSplitOnceResult, split_after}

-- what stands behind a word
pub behind_word : (word text rest : List ℕ) (r : Option (Bor (List ℕ)))
    → MatchOption r (FindsTextPrefix word text None) (λ x. StripsPrefix (FindsTextPrefix word) text x.now)
    → text ≡ word ++ rest → MatchOption r ⊥ (λ x. x.now ≡ rest)
behind_word word text rest None lacks is = lacks rest is
behind_word word text rest (Some x) strips is =
    strips.2 ∙ ap (λ n. drop n text) strips.1.0 ∙ ap (λ t. drop (length word) t) is ∙ drop-append_seam word rest

-- a number of 128 bits has fewer digits than 64
pub few_digits : (n : ℕ) → n < 2 ^ 128 → n < 10 ^ 64
few_digits n small = omega (arith, lit< {m = 2 ^ 128} {n = 10 ^ 64} tt)

-- no digit of a number is a byte below the digits
pub above_end : (n end : ℕ) → n < 2 ^ 128 → end < 48 → (i : ℕ) → i < length (decimal n)
    → get_or (decimal n) i 0 ≡ end → ⊥
above_end n end small below i inside same =
    let range = digit_at (decimal n) i (decimal_is_IsNumeral_wide n (few_digits n small)).0.1 inside in omega arith

-- a number and what stands behind its end
pub number_parts : (end n : ℕ) (text rest : List ℕ) (r : Option (Bor (List ℕ) × Bor (List ℕ)))
    → IsSplitOnceResult end text r → n < 2 ^ 128 → end < 48 → text ≡ decimal n ++ end ∷ rest
    → MatchOption r ⊥ (λ x. (x.0.now ≡ decimal n) × (x.1.now ≡ rest))
number_parts end n text rest r cases small below is =
    split_after end text (decimal n) rest r cases (omega arith) is (above_end n end small below)
