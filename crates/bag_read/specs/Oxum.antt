-- The value of Payload-Oxum (RFC 8493, 2.2.2).
use Rattle.std.specs.Prelude.{ℕ, ◌^◌, ◌==◌, ◌&&◌, ◌++◌, Bool, List, Option, Some, None, if◌then◌else◌}
use Rattle.std.specs.Prelude.{codes, decimal, nat_lt}
use Rattle.std.specs.Str.{byte}
use Rattle.std.specs.Str.Parse.{digits_value}
use Rattle.std.specs.List.{before_first, after_first}
use Rattle.bag_text.specs.Text.{is_digits}
use Rattle.bag_read.specs.declared.oxum.Oxum.{Oxum}

-- one or more ASCII digits whose value is at most 18446744073709551615
abbrev pub is_number : List ℕ → Bool
is_number t = is_digits t && nat_lt (digits_value 10 t) (2 ^ 64)

abbrev pub is_dot : ℕ → Bool
is_dot c = c == byte "."

-- `OCTETS.STREAMS` as two numbers
abbrev pub oxum_of : List ℕ → Option Oxum
oxum_of value =
    let octets = before_first is_dot value in
    let streams = after_first is_dot value in
    if is_number octets && is_number streams
    then Some (record { octets = digits_value 10 octets; streams = digits_value 10 streams })
    else None

-- two numbers as `OCTETS.STREAMS`
abbrev pub oxum_text : Oxum → List ℕ
oxum_text oxum = decimal oxum.octets ++ codes "." ++ decimal oxum.streams
