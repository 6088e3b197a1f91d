-- The elements and the faults of numbered lines, and how a reader comes to them line by line (RFC
-- 8493, 2.2.2).
use Rattle.std.specs.Prelude.{ℕ, ◌++◌, ◌||◌, Bool, true, false, List, [], ◌∷◌, Option, Some, None}
use Rattle.std.specs.Prelude.{if◌then◌else◌}
use Rattle.std.specs.Option.{option_to_list}
use Rattle.bag_text.specs.Bytes.{Line}
use Rattle.bag_text.specs.Text.{trim, is_blank_line, begins_with_blank}
use Rattle.bag_text.specs.Lines.{line_feed}
use Rattle.bag_text.specs.declared.code.Code.TheVariants.{InfoLine}
use Rattle.bag_text.specs.declared.rules.Rules.{Rules}
use Rattle.bag_read.specs.Info.{begins_element, split}
use Rattle.bag_read.specs.LineFault.{line_fault}
use Rattle.bag_read.specs.declared.line_fault.LineFault.{LineFault}
use Rattle.bag_read.specs.declared.info.Element.{Element}
use Rattle.bag_read.specs.declared.info_reader.Above.{Above}
use Rattle.bag_read.specs.declared.info_reader.Above.TheVariants.{Nothing, Refused, Begun}
use Rattle.bag_read.specs.declared.info_reader.Reader.{Reader}

abbrev pub Numbered : Type 0
Numbered = List (ℕ × Line)

-- a value and one more part
abbrev pub with_part : List ℕ → List ℕ → List ℕ
with_part value part = value ++ line_feed ∷ trim part

-- a value that goes on over the lines that follow
abbrev pub value_on : List ℕ → Numbered → List ℕ
value_on value [] = value
value_on value (x ∷ xs) =
    if is_blank_line x.1 then value_on value xs
    else if begins_with_blank x.1 then value_on (with_part value x.1) xs
    else value

-- what a line that begins an element makes, with the lines that follow
abbrev pub element_if : ℕ → Option (List ℕ × List ℕ) → Numbered → Option Element
element_if n None more = None
element_if n (Some x) more =
    Some (record { line = n; label = x.0; value = value_on (trim x.1) more })

abbrev pub element_at : Rules → ℕ → Line → Numbered → Option Element
element_at rules n line more =
    if begins_element line then element_if n (split rules line) more else None

abbrev pub elements : Rules → Numbered → List Element
elements rules [] = []
elements rules (x ∷ xs) = option_to_list (element_at rules x.0 x.1 xs) ++ elements rules xs

abbrev pub wrong : ℕ → LineFault
wrong n = line_fault n InfoLine []

abbrev pub fault_unless : ℕ → Option (List ℕ × List ℕ) → Option LineFault
fault_unless n None = Some (wrong n)
fault_unless n (Some x) = None

-- what is wrong with a line, by whether an earlier line should have begun an element
abbrev pub fault_at : Rules → Bool → ℕ → Line → Option LineFault
fault_at rules begun n line =
    if is_blank_line line then None
    else if begins_with_blank line then (if begun then None else Some (wrong n))
    else fault_unless n (split rules line)

abbrev pub faults : Rules → Bool → Numbered → List LineFault
faults rules begun [] = []
faults rules begun (x ∷ xs) =
    option_to_list (fault_at rules begun x.0 x.1) ++ faults rules (begun || begins_element x.1) xs

-- the element that is open, as it stands
abbrev pub closed : Above → List Element
closed Nothing = []
closed Refused = []
closed (Begun e) = e ∷ []

-- the element that is open, with the lines that follow
abbrev pub closed_after : Above → Numbered → List Element
closed_after Nothing xs = []
closed_after Refused xs = []
closed_after (Begun e) xs = record e { value = value_on e.value xs } ∷ []

abbrev pub has_begun : Above → Bool
has_begun Nothing = false
has_begun Refused = true
has_begun (Begun e) = true

-- all that the reader gives, with the lines that follow
abbrev pub all_elements : Rules → Reader → Numbered → List Element
all_elements rules r xs = r.items ++ (closed_after r.above xs ++ elements rules xs)

abbrev pub all_faults : Rules → Reader → Numbered → List LineFault
all_faults rules r xs = r.faults ++ faults rules (has_begun r.above) xs

-- the reader after a line that should begin an element
abbrev pub begun : Reader → ℕ → Option (List ℕ × List ℕ) → Reader
begun r n None =
    record { items = r.items ++ closed r.above; faults = r.faults ++ wrong n ∷ []; above = Refused }
begun r n (Some x) =
    record {
      items = r.items ++ closed r.above;
      faults = r.faults;
      above = Begun (record { line = n; label = x.0; value = trim x.1 });
    }

abbrev pub continued_from : Reader → ℕ → Line → Above → Reader
continued_from r n line Nothing = record r { faults = r.faults ++ wrong n ∷ [] }
continued_from r n line Refused = r
continued_from r n line (Begun e) =
    record r { above = Begun (record e { value = with_part e.value line }) }

-- the reader after a continuation
abbrev pub continued : Reader → ℕ → Line → Reader
continued r n line = continued_from r n line r.above

-- the reader after a line
abbrev pub after_line : Rules → Reader → ℕ → Line → Reader
after_line rules r n line =
    if is_blank_line line then r
    else if begins_with_blank line then continued r n line
    else begun r n (split rules line)
