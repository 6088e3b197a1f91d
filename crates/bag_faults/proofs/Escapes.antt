-- The escapes of a field.
use Rattle.bag_faults.proofs.Common.{◌≡◌, ℕ, ◌||◌, ◌==◌, Bool, true, false, not, length, List, [], ◌∷◌, refl, nat_lt}
use Rattle.bag_faults.proofs.Common.{arith, codes, agree_below, agree_below_at, nat_tests, contains, ESCAPED, is_encoded}
use Rattle.bag_faults.proofs.Common.{encoded, field, percent_encode, should_percent_encode, bytes_eq, flat_map}

table : agree_below (contains ESCAPED) is_encoded 128 ≡ true
table = refl

same_test_at : (b : ℕ) (t : Bool) → nat_lt b 128 ≡ t → (not t || contains ESCAPED b) ≡ is_encoded b
same_test_at b true e = agree_below_at (contains ESCAPED) is_encoded 128 b table (grind (arith, nat_tests))
same_test_at b false e = grind (arith, nat_tests)

-- what the set escapes is what the definition does
pub same_test : (b : ℕ) → should_percent_encode ESCAPED b ≡ is_encoded b
unfolding should_percent_encode
same_test b = same_test_at b (nat_lt b 128) refl

pub same_escapes : (bs : List ℕ) → percent_encode ESCAPED bs ≡ flat_map encoded bs
unfolding percent_encode
same_escapes [] = refl
same_escapes (b ∷ bs) = grind (arith, same_test, same_escapes bs)

-- a text that is neither empty nor a hyphen
pub other_field : (t : List ℕ) → bytes_eq t [] ≡ false → bytes_eq t (codes "-") ≡ false → field t ≡ flat_map encoded t
other_field t some other = grind arith

pub nonempty : (t : List ℕ) → (length t == 0) ≡ false → bytes_eq t [] ≡ false
nonempty [] e = cc
nonempty (x ∷ t) e = refl
