-- A fault as a line of text.
use Rattle.std.specs.Prelude.{ℕ, ◌==◌, ◌||◌, Bool, List, [], ◌∷◌, Option, Some, None, bytes_eq}
use Rattle.std.specs.Prelude.{codes, decimal, if◌then◌else◌, flat_map, nat_le}
use Rattle.std.specs.List.{join_with_byte}
use Rattle.std.specs.Str.{byte}
use Rattle.bag_text.specs.Bytes.{Line}
use Rattle.percent_encoding.specs.Percent.{percent_encode_byte}
use Rattle.bag_text.specs.Alg.{name}
use Rattle.bag_text.specs.Code.{number}
use Rattle.bag_text.specs.CodeWord.{word}
use Rattle.bag_text.specs.declared.alg.Alg.{Alg}
use Rattle.bag_faults.specs.declared.fault.Fault.{Fault}

-- the bytes 0 to 32, 37 (%), and 127 to 255
abbrev pub is_encoded : ℕ → Bool
is_encoded b = nat_le b 32 || b == byte "%" || nat_le 127 b

-- a byte of a text: as it is, or as % and two upper-case hex digits
abbrev pub encoded : ℕ → List ℕ
encoded b = if is_encoded b then percent_encode_byte b else b ∷ []

-- a text as a field: - where it is empty, %2D for the text -, and else its bytes one after another
abbrev pub field : List ℕ → List ℕ
field t =
    if bytes_eq t [] then codes "-"
    else if bytes_eq t (codes "-") then codes "%2D"
    else flat_map encoded t

-- the algorithm's name, or - for none
abbrev pub alg_field : Option Alg → List ℕ
alg_field None = codes "-"
alg_field (Some alg) = name alg

-- the number in decimal, or - for 0
abbrev pub line_field : ℕ → List ℕ
line_field line = if line == 0 then codes "-" else decimal line

-- code, word, path, algorithm, line and detail, with one space between
abbrev pub fault_line : Fault → Line
fault_line f =
    join_with_byte (byte " ")
    (decimal (number f.code) ∷ word f.code ∷ field f.path ∷ alg_field f.alg ∷ line_field f.line
    ∷ field f.detail ∷ [])
