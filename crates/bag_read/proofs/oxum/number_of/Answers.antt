use Rattle.bag_read.proofs.Common.{Err, List, None, Ok, Option, Result, Some, [], arith, bytes_eq, false, length, not}
use Rattle.bag_read.proofs.Common.{true, ℕ, ◌<◌, ◌^◌, ◌∷◌, ◌≡◌, nat_tests, OkIff, all_ascii_digits, ParsesUnsigned}
use Rattle.bag_read.proofs.Common.{digits_value, is_digits, number_of, sym, ◌∙◌}
use Rattle.std.proofs.lemmas.Str.Parse.{numerals_by_value, tells_all_ascii_digits, parse_digits}
use Rattle.bag_read.proofs.LineParts.{not_true}
use Rattle.bag_read.proofs.PickedOut.{both_true}
use Rattle.bag_read.proofs.oxum.number_of.Goals as goal

-- The numbers of an oxum.

abbrev value_or_none : {E : Type 0} → Result ℕ E → Option ℕ
value_or_none (Ok n) = Some n
value_or_none (Err e) = None

told : {E : Type 0} (t : List ℕ) (r : Result ℕ E) → bytes_eq t [] ≡ false → all_ascii_digits t ≡ true
    → OkIff r ((0 < length t) × (digits_value 10 t < 2 ^ 64)) (digits_value 10 t) → value_or_none r ≡ number_of t
told [] r some digits is = cc
told (c ∷ t) r some digits is = grind (arith, digits_value, nat_tests)

-- what `parse` reads of digits
number_read : {E : Type 0} (t : List ℕ) (r : Result ℕ E) → ParsesUnsigned 64 10 t r → is_digits t ≡ true
    → value_or_none r ≡ number_of t
number_read t r h digits =
    let two = both_true (not (bytes_eq t [])) (all_ascii_digits t) digits in
    told t r (not_true _ two.0) two.1 (parse_digits (numerals_by_value _ tells_all_ascii_digits) 64 t r h two.1)

pub returns-in-Err : goal.returns-in-Err
returns-in-Err c = number_read c.args.text.now (Err c.in-Err.field-0) c.in-Err.ensures.value.0
    (sym c.is_digits.ensures ∙ c.if-not-is_digits.false)
