-- Texts of ASCII digits.
use Rattle.bag_read.proofs.Common.{List, [], ap, arith, refl, true, ℕ, ◌&&◌, ◌∷◌, ◌≡◌, is_ascii_digit, list_all}
use Rattle.bag_read.proofs.Common.{all_ascii_digits, is_digits, AreDigits}
use Rattle.bag_read.proofs.LineParts.{not_true, not_empty, empty_test}
use Rattle.bag_read.proofs.PickedOut.{both_true}

all_digits : (t : List ℕ) → all_ascii_digits t ≡ list_all is_ascii_digit t
all_digits [] = refl
all_digits (c ∷ t) = ap (λ b. is_ascii_digit c && b) (all_digits t)

-- the test tells digits
pub are_digits : (t : List ℕ) → is_digits t ≡ true → AreDigits t
are_digits t e = grind (arith, both_true, not_empty, not_true, all_digits)

pub digits_are : (t : List ℕ) → AreDigits t → is_digits t ≡ true
digits_are t (some, digits) = rw (empty_test t some, all_digits t) digits
