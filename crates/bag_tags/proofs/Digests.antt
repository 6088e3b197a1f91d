-- A digest has the algorithm's length and lower-case digits.
use Rattle.std.proofs.Common.{◌≡◌, ℕ, ◌/◌, ◌%◌, ◌<◌, true, false, List, [], ◌∷◌, refl, arith, slice_index}
use Rattle.std.proofs.lemmas.Bool.{agree_below_at, and_from, eq-eqb, not_from_true, or_from}
use Rattle.std.proofs.lemmas.List.Elements.{All-head, All-tail}
use Rattle.std.specs.List.{list_all}
use Rattle.bag_text.specs.declared.alg.Alg.{Alg}
use Rattle.bag_tags.specs.Writable.{is_bad_digest, is_lower_hex_digit}
use Rattle.bag_tree.specs.Digest.{digest, hash}
use Rattle.hex.specs.Hex.{encode_with, encode_lower, lower_digits}
use Rattle.hex.proofs.HexLemmas.{length-encode_with}
use Rattle.bag_tree.proofs.HashValues.{AreBytes, value}

lower_digit : (d : ℕ) → d < 16 → is_lower_hex_digit (slice_index lower_digits d) ≡ true
lower_digit d l = agree_below_at (λ d. is_lower_hex_digit (slice_index lower_digits d)) (λ d. true) 16 d refl l

lower_each : (bytes : List ℕ) → AreBytes bytes → list_all is_lower_hex_digit (encode_lower bytes) ≡ true
unfolding encode_with
lower_each [] all = refl
lower_each (b ∷ bytes) all =
    let small : b < 256 = All-head (λ b. b < 256) b bytes all in
    and_from _ _ (lower_digit (b / 16) (omega arith))
    (and_from _ _ (lower_digit (b % 16) (omega arith)) (lower_each bytes (All-tail (λ b. b < 256) b bytes all)))

-- a digest can be written
pub good_digest : (alg : Alg) (bytes : List ℕ) → is_bad_digest alg (digest alg bytes) ≡ false
good_digest alg bytes = grind (arith, or_from, not_from_true, eq-eqb, lower_each, value, length-encode_with, hash)
