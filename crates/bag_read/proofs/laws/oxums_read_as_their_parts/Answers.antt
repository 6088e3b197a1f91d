use Rattle.bag_read.proofs.Common.{List, Some, arith, nat_lt, refl, subst, true, ℕ, ◌&&◌, ◌≡◌, nat_tests, cond_some}
use Rattle.bag_read.proofs.Common.{after_first, before_first, byte, digits_value, is_digits, IsOxum, WritesNumber}
use Rattle.bag_read.proofs.Common.{is_dot, is_number, oxum_of}
use Rattle.bag_read.specs.declared.oxum.Oxum.{Oxum}
use Rattle.bag_read.proofs.AreDigits.{are_digits, digits_are}
use Rattle.bag_read.proofs.DeclarationLineParts.{digits_no_dot}
use Rattle.bag_read.proofs.FirstMark.{cut_before, before_is, behind_is}
use Rattle.bag_read.proofs.PickedOut.{both_true}
use Rattle.bag_read.proofs.laws.oxums_read_as_their_parts.Goals as goal

-- The value of Payload-Oxum and its parts.

number_writes : (t : List ℕ) → is_number t ≡ true → WritesNumber t (digits_value 10 t)
number_writes t e = grind (arith, both_true, is_digits, nat_lt, digits_value, are_digits, nat_tests)

writes_number : (t : List ℕ) (n : ℕ) → WritesNumber t n → is_number t ≡ true
writes_number t n (digits, is, l) = grind (arith, digits_are, digits_value, nat_tests)

module _ (value : List ℕ) where
  abbrev octets : List ℕ
  octets = before_first is_dot value

  abbrev streams : List ℕ
  streams = after_first is_dot value

  oxum_parts : (oxum : Oxum) → oxum_of value ≡ Some oxum → IsOxum value oxum
  oxum_parts oxum e =
      let read = cond_some (is_number octets && is_number streams) _ oxum e in
      let two = both_true (is_number octets) (is_number streams) read.0 in
      let other = number_writes streams two.1 in
      subst (IsOxum value) read.1
      (octets, streams, cut_before (byte ".") value other.0.0, number_writes octets two.0, other)

  parts_oxum : (oxum : Oxum) → IsOxum value oxum → oxum_of value ≡ Some oxum
  parts_oxum oxum (o, s, e, one, other) =
      let none = digits_no_dot o one.0.1 in
      rw (
        before_is (byte ".") o s value none e,
        behind_is (byte ".") o s value none e,
        writes_number o oxum.octets one,
        writes_number s oxum.streams other,
        one.1,
        other.1,
      ) refl

pub returns : goal.returns
returns c = λ value oxum. (oxum_parts value oxum, parts_oxum value oxum)
