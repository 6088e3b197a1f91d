-- The two lines of the declaration and their parts.
use Rattle.bag_read.proofs.Common.{Bool, List, Some, [], arith, codes, nat_eq, not, refl, true, ℕ, ◌++◌, ◌==◌, ◌∷◌, ◌≡◌}
use Rattle.bag_read.proofs.Common.{nat_tests, is_ascii_digit, after_first, before_first, list_all, option_and_then, ◌↔◌}
use Rattle.bag_read.proofs.Common.{byte, is_digits, after_prefix, is_encoding, is_version, when}
use Rattle.bag_read.proofs.Common.{EncodingLinesReadAsTheirParts, VersionLinesReadAsTheirParts, AreDigits}
use Rattle.bag_read.proofs.AreDigits.{are_digits, digits_are}
use Rattle.bag_read.proofs.FirstMark.{cut_before, before_is, behind_is}
use Rattle.bag_read.proofs.Fronts.{drop_front}
use Rattle.bag_read.proofs.LineParts.{not_empty, empty_test, not_true}
use Rattle.bag_read.proofs.PickedOut.{both_true}
use Rattle.bag_read.proofs.Texts.{after_is, prefix_test}

abbrev is_dot : ℕ → Bool
is_dot c = c == byte "."

abbrev no_dot : ℕ → Bool
no_dot c = not (is_dot c)

pub digits_no_dot : (t : List ℕ) → list_all is_ascii_digit t ≡ true → list_all no_dot t ≡ true
digits_no_dot [] e = refl
digits_no_dot (c ∷ t) e = grind (arith, nat_tests, digits_no_dot t)

abbrev IsVersion : List ℕ → Type 0
IsVersion version = (major minor : List ℕ) × AreDigits major × AreDigits minor × (version ≡ major ++ codes "." ++ minor)

version_is : (t : List ℕ) → is_version t ≡ true → IsVersion t
version_is t e =
    let (first, second) = both_true (is_digits (before_first is_dot t)) (is_digits (after_first is_dot t)) e in
    let minor = are_digits (after_first is_dot t) second in (
      before_first is_dot t,
      after_first is_dot t,
      are_digits (before_first is_dot t) first,
      minor,
      cut_before (byte ".") t minor.0,
    )

is_version_of : (t : List ℕ) → IsVersion t → is_version t ≡ true
is_version_of t (major, minor, a, b, e) =
    let none = digits_no_dot major a.1 in
    rw (
      before_is (byte ".") major minor t none e,
      behind_is (byte ".") major minor t none e,
      digits_are major a,
      digits_are minor b,
    ) refl

module _ (test : List ℕ → Bool) (label line value : List ℕ) where
  labelled : (option_and_then (when test) (after_prefix label line) ≡ Some value)
      ↔ ((line ≡ label ++ value) × (test value ≡ true))
  labelled = (λ e. grind (arith, after_prefix, after_is), λ h. grind (arith, nat_eq, prefix_test, drop_front))

pub version_lines : VersionLinesReadAsTheirParts
version_lines line version =
    let read = labelled is_version (codes "BagIt-Version: ") line version in
    (λ e. let (at, is) = read.0 e in (at, version_is version is), λ h. read.1 (h.0, is_version_of version h.1))

pub encoding_lines : EncodingLinesReadAsTheirParts
encoding_lines line encoding =
    let read = labelled is_encoding (codes "Tag-File-Character-Encoding: ") line encoding in
    (λ e. grind (arith, read.0 e, both_true, not_empty, not_true), λ h. read.1 (h.0, rw (empty_test encoding h.1) h.2))
