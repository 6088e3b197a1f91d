-- The two fields that aren't a text's bytes.
use Rattle.bag_faults.proofs.Common.{◌≡◌, ℕ, ◌==◌, true, false, length, List, [], ◌∷◌, refl, codes, arith, nat_tests}
use Rattle.bag_faults.proofs.Common.{ESCAPED, ESCAPED_HYPHEN, field, percent_encode, percent_encode_byte}
use Rattle.bag_faults.proofs.Common.{should_percent_encode, bytes_eq}

pub empty_field : (t : List ℕ) → (length t == 0) ≡ true → field t ≡ codes "-"
empty_field [] e = refl
empty_field (x ∷ t) e = grind (arith, nat_tests)

pub hyphen_field : (t : List ℕ) → bytes_eq t [] ≡ false → bytes_eq t (codes "-") ≡ true → field t ≡ codes "%2D"
hyphen_field t some is = grind arith

pub plain_hyphen : percent_encode ESCAPED (codes "-") ≡ codes "-"
unfolding percent_encode should_percent_encode percent_encode_byte
plain_hyphen = refl

pub escaped_hyphen : percent_encode ESCAPED_HYPHEN (codes "-") ≡ codes "%2D"
unfolding percent_encode should_percent_encode percent_encode_byte
escaped_hyphen = refl
