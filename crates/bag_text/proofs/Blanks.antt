-- Where a text may be cut beside blanks.
use Rattle.bag_text.proofs.Common.{◌≡◌, ℕ, zero, suc, ◌+◌, ◌-◌, ◌<◌, true, not, nat_lt, List, length, get_or, reverse}
use Rattle.bag_text.proofs.Common.{subst, ap, ◌∙◌, refl, arith, prefix_len, suffix_len, IsUtf8, IsCharBoundary}
use Rattle.bag_text.proofs.Common.{nat_tests, get_or-reverse, prefix_len_passes, prefix_len_stops, prefix_len-le-length}
use Rattle.bag_text.proofs.Common.{suffix_len-le-length, IsCharBoundary-start, IsCharBoundary-end}
use Rattle.bag_text.proofs.Common.{IsCharBoundary-before_ascii, IsCharBoundary-after_ascii, is_blank}

blank_small : (c : ℕ) → is_blank c ≡ true → c < 128
blank_small c e = grind (arith, nat_tests)

after_blanks : (t : List ℕ) (n : ℕ) → IsUtf8 t → prefix_len is_blank t ≡ n → IsCharBoundary t n
after_blanks t zero u e = IsCharBoundary-start t u
after_blanks t (suc k) u e =
    let within = prefix_len-le-length is_blank t in
    let blank : is_blank (get_or t k 0) ≡ true = prefix_len_passes is_blank t k 0 (omega arith) in
    let step : k + 1 ≡ suc k = omega arith in
    subst (IsCharBoundary t) step (IsCharBoundary-after_ascii t k u (omega (arith, within)) (blank_small _ blank))

-- after the blanks at the front
pub leading_boundary : (t : List ℕ) → IsUtf8 t → IsCharBoundary t (prefix_len is_blank t)
leading_boundary t u = after_blanks t _ u refl

before_blanks : (t : List ℕ) (n : ℕ) → suffix_len is_blank t ≡ n → IsCharBoundary t (length t - n)
before_blanks t zero e =
    let step : length t ≡ length t - 0 = omega arith in subst (IsCharBoundary t) step (IsCharBoundary-end t)
before_blanks t (suc k) e =
    let within = suffix_len-le-length is_blank t in
    let inside : k < length t = omega (arith, within) in
    let blank : is_blank (get_or (reverse t) k 0) ≡ true = prefix_len_passes is_blank (reverse t) k 0 (omega arith) in
    let step : length t - 1 - k ≡ length t - suc k = omega arith in
    let same : get_or (reverse t) k 0 ≡ get_or t (length t - suc k) 0 =
    get_or-reverse t k 0 inside ∙ ap (λ i. get_or t i 0) step in
    IsCharBoundary-before_ascii t (length t - suc k) (omega arith)
    (blank_small _ (subst (λ c. is_blank c ≡ true) same blank))

-- and before those at the end
pub trailing_boundary : (t : List ℕ) → IsCharBoundary t (length t - suffix_len is_blank t)
trailing_boundary t = before_blanks t _ refl

-- and before the first blank
pub before_blank_boundary : (t : List ℕ) → IsCharBoundary t (prefix_len (λ c. not (is_blank c)) t)
before_blank_boundary t = grind (arith, nat_lt, prefix_len-le-length, blank_small, prefix_len_stops, nat_tests)
