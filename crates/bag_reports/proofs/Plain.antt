-- The bytes of a line stand between a space and a tilde.
use Rattle.std.proofs.Common.{◌≡◌, ℕ, ◌<◌, ◌≤◌, ◌^◌, ◌++◌, ◌∷◌, ◌&&◌, ◌==◌, List, [], Bool, true, false, All, codes}
use Rattle.std.proofs.Common.{arith, decimal, flat_map, get_or, refl, nat_le, nat_lt, length, Option, Some, None}
use Rattle.std.specs.List.{list_all}
use Rattle.std.specs.Prelude.{IsUtf8}
use Rattle.std.proofs.lemmas.Bool.{cond_both}
use Rattle.std.proofs.lemmas.Bool.Decides.{nat_tests}
use Rattle.std.proofs.lemmas.Fmt.{decimal_is_IsNumeral_wide}
use Rattle.std.proofs.lemmas.List.{get_or_past}
use Rattle.std.proofs.lemmas.List.Elements.{All-append, All-cons, All-from_get_or, All-nil}
use Rattle.std.proofs.lemmas.Str.{IsUtf8-from_ascii}
use Rattle.std.proofs.lemmas.Str.Parse.{digit_at}
use Rattle.percent_encoding.proofs.PercentLemmas.{All-percent_encode_byte, IsEscapeByte}
use Rattle.percent_encoding.specs.Percent.{percent_encode_byte}
use Rattle.bag_text.specs.Alg.{name}
use Rattle.bag_text.specs.Code.{number}
use Rattle.bag_text.specs.CodeWord.{word}
use Rattle.bag_text.specs.declared.alg.Alg.{Alg}
use Rattle.bag_text.specs.declared.code.Code.{Code}
use Rattle.bag_text.specs.declared.code.Code.TheVariants.{NotUtf8}
use Rattle.bag_faults.proofs.Algs.{each_alg}
use Rattle.bag_faults.proofs.Codes.{small_number}
use Rattle.bag_faults.specs.FaultLine.{alg_field, encoded, fault_line, field, is_encoded, line_field}
use Rattle.bag_faults.specs.LineOf.{IsFault}
use Rattle.bag_faults.specs.declared.fault.Fault.{Fault}
use Rattle.bag_reports.specs.Input.{HasNoEnd}
use Rattle.bag_reports.proofs.Words.{few_digits}

abbrev pub IsPlain : ℕ → Type 0
IsPlain b = (32 ≤ b) × (b < 127)

abbrev plain : ℕ → Bool
plain b = nat_le 32 b && nat_lt b 127

pub from_test : (xs : List ℕ) → list_all plain xs ≡ true → All IsPlain xs
from_test [] e = All-nil IsPlain
from_test (x ∷ xs) e = All-cons IsPlain x xs (grind (arith, nat_tests)) (from_test xs (grind (arith, nat_tests)))

pub decimal_plain : (n : ℕ) → n < 2 ^ 128 → All IsPlain (decimal n)
decimal_plain n small =
    let digits = (decimal_is_IsNumeral_wide n (few_digits n small)).0.1 in
    All-from_get_or IsPlain (decimal n) 0 (λ i inside.
    let range = digit_at (decimal n) i digits inside in (omega arith, omega arith))

escape_plain : (b : ℕ) → IsEscapeByte b → IsPlain b
escape_plain b h = grind arith

one_plain : (b : ℕ) → All IsPlain (encoded b)
one_plain b =
    cond_both (is_encoded b) (percent_encode_byte b) (b ∷ []) (All IsPlain)
    (λ _ k d inside. escape_plain _ (All-percent_encode_byte b k d inside))
    (λ kept. All-cons IsPlain b [] (grind (arith, nat_tests)) (All-nil IsPlain))

encoded_plain : (t : List ℕ) → All IsPlain (flat_map encoded t)
encoded_plain [] = All-nil IsPlain
encoded_plain (b ∷ t) = All-append IsPlain (encoded b) (flat_map encoded t) (one_plain b) (encoded_plain t)

pub field_plain : (t : List ℕ) → All IsPlain (field t)
field_plain t = grind (arith, cond_both, from_test, encoded_plain)

each_word : (c : Code) → list_all plain (word c) ≡ true
each_word NotUtf8 = refl
each_word _ = refl

word_plain : (c : Code) → All IsPlain (word c)
word_plain c = from_test (word c) (each_word c)

alg_plain : (alg : Option Alg) → All IsPlain (alg_field alg)
alg_plain None = from_test (codes "-") refl
alg_plain (Some alg) = from_test (name alg) (each_alg (λ a. list_all plain (name a)) refl alg)

line_plain : (n : ℕ) → n < 2 ^ 64 → All IsPlain (line_field n)
line_plain n small =
    cond_both (n == 0) _ _ (All IsPlain) (λ _. from_test (codes "-") refl) (λ _. decimal_plain n (omega arith))

-- one field, a space, and what stands behind it
behind : (xs ys : List ℕ) → All IsPlain xs → All IsPlain ys → All IsPlain (xs ++ 32 ∷ ys)
behind xs ys p q = All-append IsPlain xs (32 ∷ ys) p (All-cons IsPlain 32 ys (omega arith, omega arith) q)

pub fault_plain : (f : Fault) → IsFault f → All IsPlain (fault_line f)
fault_plain f is =
    let small = small_number f.code in
    behind (decimal (number f.code)) _ (decimal_plain (number f.code) (omega arith))
    (behind (word f.code) _ (word_plain f.code)
    (behind (field f.path) _ (field_plain f.path)
    (behind (alg_field f.alg) _ (alg_plain f.alg)
    (behind (line_field f.line) _ (line_plain f.line is.line) (field_plain f.detail)))))

-- so it has no end of a line within it
pub no_end : (xs : List ℕ) → All IsPlain xs → HasNoEnd xs
no_end xs p k d inside same = let range = p k d inside in omega arith

-- and is a text, with its end too
pub is_text : (xs : List ℕ) → All (λ b. b < 128) xs → IsUtf8 xs
is_text xs p = IsUtf8-from_ascii xs (λ i. at_most i (nat_lt i (length xs)) refl)
  where
    at_most : (i : ℕ) (b : Bool) → nat_lt i (length xs) ≡ b → get_or xs i 0 < 128
    at_most i true e = p i 0 (grind (arith, nat_tests))
    at_most i false e = omega (arith, get_or_past xs i 0 (grind (arith, nat_tests)))

pub line_is_text : (xs : List ℕ) → All IsPlain xs → IsUtf8 (xs ++ codes "\n")
line_is_text xs p = is_text (xs ++ codes "\n")
    (All-append (λ b. b < 128) xs (codes "\n") (λ k d inside. let range = p k d inside in omega arith)
    (All-cons (λ b. b < 128) 10 [] (omega arith) (All-nil (λ b. b < 128))))

pub fault_is_text : (f : Fault) → IsFault f → IsUtf8 (fault_line f)
fault_is_text f is =
    is_text (fault_line f) (λ k d inside. let range = fault_plain f is k d inside in omega arith)
