-- The fields of a line hold no space, so that a line has one way to be cut into fields.
use Rattle.bag_faults.proofs.Common.{◌≡◌, ◌≢◌, ℕ, ◌<◌, ◌^◌, ◌==◌, true, false, not, List, [], ◌∷◌, ◌++◌, Option, Some}
use Rattle.bag_faults.proofs.Common.{None, All, codes, sym, subst, refl, arith, decimal, flat_map, list_all, cond_both}
use Rattle.bag_faults.proofs.Common.{both_ways, nat_tests, decimal_is_IsNumeral, All-nil, All-cons, All-head, All-tail}
use Rattle.bag_faults.proofs.Common.{All-from_get_or, should_percent_encode, All-percent_encode, IsEscapeByte, name, Alg}
use Rattle.bag_faults.proofs.Common.{Code, number, word, ESCAPED, encoded, field, alg_field, line_field}
use Rattle.std.proofs.lemmas.Str.Parse.{digit_at}
use Rattle.percent_encoding.proofs.AsciiSetLemmas.{escaped_from_inside}
use Rattle.bag_faults.proofs.Algs.{each_alg}
use Rattle.bag_faults.proofs.Codes.{small_number, word_test}
use Rattle.bag_faults.proofs.Escapes.{same_escapes}

abbrev pub IsNoSpace : ℕ → Type 0
IsNoSpace c = c ≢ 32

abbrev pub HasNoSpace : List ℕ → Type 0
HasNoSpace xs = All IsNoSpace xs

from_test : (xs : List ℕ) → list_all (λ b. not (b == 32)) xs ≡ true → HasNoSpace xs
from_test [] e = All-nil IsNoSpace
from_test (x ∷ xs) e = All-cons IsNoSpace x xs (grind (arith, nat_tests)) (from_test xs (grind (arith, nat_tests)))

pub decimal_clean : (n : ℕ) → n < 2 ^ 64 → HasNoSpace (decimal n)
decimal_clean n small =
    let digits = (decimal_is_IsNumeral n small).0.1 in
    All-from_get_or IsNoSpace (decimal n) 0 (λ i inside.
    let range = digit_at (decimal n) i digits inside in omega arith)

pub number_clean : (c : Code) → HasNoSpace (decimal (number c))
number_clean c = let small = small_number c in decimal_clean (number c) (omega arith)

pub word_clean : (c : Code) → HasNoSpace (word c)
word_clean c = from_test (word c) (word_test c)

kept_is_no_space : (b : ℕ) → should_percent_encode ESCAPED b ≡ false → IsNoSpace b
kept_is_no_space b kept e =
    both_ways _ kept (subst (λ c. should_percent_encode ESCAPED c ≡ true) (sym e) (escaped_from_inside ESCAPED 32 refl))

escape_is_no_space : (b : ℕ) → IsEscapeByte b → IsNoSpace b
escape_is_no_space b h e = grind arith

pub encoded_clean : (t : List ℕ) → HasNoSpace (flat_map encoded t)
encoded_clean t =
    subst HasNoSpace (same_escapes t) (All-percent_encode IsNoSpace ESCAPED t kept_is_no_space escape_is_no_space)

pub field_clean : (t : List ℕ) → HasNoSpace (field t)
field_clean t = grind (arith, cond_both, from_test, encoded_clean)

pub alg_clean : (alg : Option Alg) → HasNoSpace (alg_field alg)
alg_clean None = from_test (codes "-") refl
alg_clean (Some alg) = from_test (name alg) (each_alg (λ a. list_all (λ b. not (b == 32)) (name a)) refl alg)

pub line_clean : (n : ℕ) → n < 2 ^ 64 → HasNoSpace (line_field n)
line_clean n small = cond_both (n == 0) _ _ HasNoSpace (λ _. from_test (codes "-") refl) (λ _. decimal_clean n small)

-- what stands before the first space, and what stands after it
pub same_front : (a b r s : List ℕ) → HasNoSpace a → HasNoSpace b → a ++ 32 ∷ r ≡ b ++ 32 ∷ s → (a ≡ b) × (r ≡ s)
same_front [] [] r s p q e = let same : r ≡ s = cc in (refl, same)
same_front [] (y ∷ b) r s p q e = let same : y ≡ 32 = cc in absurd (All-head IsNoSpace y b q same)
same_front (x ∷ a) [] r s p q e = let same : x ≡ 32 = cc in absurd (All-head IsNoSpace x a p same)
same_front (x ∷ a) (y ∷ b) r s p q e =
    let first : x ≡ y = cc in
    let behind : a ++ 32 ∷ r ≡ b ++ 32 ∷ s = cc in
    let rest = same_front a b r s (All-tail IsNoSpace x a p) (All-tail IsNoSpace y b q) behind in
    (cc (first, rest.0), rest.1)
