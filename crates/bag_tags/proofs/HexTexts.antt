-- Texts of hex digits in lower case.
use Rattle.bag_tags.proofs.Common.{Bool, List, [], arith, false, get_or, length, lit<, not, refl, true, ℕ, ◌++◌, ◌<◌}
use Rattle.bag_tags.proofs.Common.{◌∷◌, ◌≡◌, ◌≢◌, nat_tests, IsUtf8-from_ascii, is_ascii_hexdigit, list_all, list_any}
use Rattle.bag_tags.proofs.Common.{IsUtf8, str_to_ascii_lowercase, not_false, or_false, both_true, is_line_end}
use Rattle.bag_tags.proofs.Common.{has_mark, is_blank, Alg, is_bad_digest, is_lower_hex_digit, ◌-◌}
use Rattle.bag_text.specs.Alg.{hex_len}

each_passes : (p q : ℕ → Bool) → ((c : ℕ) → p c ≡ true → q c ≡ true) → (t : List ℕ) → list_all p t ≡ true
    → list_all q t ≡ true
each_passes p q more [] e = refl
each_passes p q more (c ∷ t) e =
    let two = both_true (p c) (list_all p t) e in rw (more c two.0) (each_passes p q more t two.1)

small_at : (t : List ℕ) (i : ℕ) → list_all is_lower_hex_digit t ≡ true → get_or t i 0 < 128
small_at [] i e = lit< tt
small_at (c ∷ t) i e = grind (arith, both_true, nat_tests, small_at t (i - 1))

module _ (t : List ℕ) (digits : list_all is_lower_hex_digit t ≡ true) where
  pub all_hex : list_all is_ascii_hexdigit t ≡ true
  all_hex = grind (arith, each_passes, both_true)

  pub no_blank : list_all (λ c. not (is_blank c)) t ≡ true
  no_blank = grind (arith, each_passes, nat_tests)

  pub hex_utf8 : IsUtf8 t
  hex_utf8 = IsUtf8-from_ascii t (λ i. small_at t i digits)

pub no_hex_end : (t : List ℕ) → list_all is_lower_hex_digit t ≡ true → list_any is_line_end t ≡ false
no_hex_end [] e = refl
no_hex_end (c ∷ t) e = grind (arith, nat_tests, both_true, no_hex_end t)

pub low_hex : (t : List ℕ) → list_all is_lower_hex_digit t ≡ true → t ≡ str_to_ascii_lowercase t
low_hex [] e = refl
low_hex (c ∷ t) e = grind (arith, nat_tests, both_true, low_hex t)

pub no_hex_mark : (t rest : List ℕ) → t ≢ [] → list_all is_lower_hex_digit t ≡ true → has_mark (t ++ rest) ≡ false
no_hex_mark [] rest some e = absurd (some refl)
no_hex_mark (c ∷ t) rest some e = grind (arith, both_true, nat_tests)

module _ (alg : Alg) (t : List ℕ) (good : is_bad_digest alg t ≡ false) where
  pub digest_length : length t ≡ hex_len alg
  digest_length = grind (arith, not_false, nat_tests)

  pub digest_digits : list_all is_lower_hex_digit t ≡ true
  digest_digits = grind (arith, not_false, or_false)

  pub digest_some : t ≢ []
  digest_some same = grind (arith, digest_length, lit<)
