-- The metadata of a bag, bag-info.txt (RFC 8493, 2.2.2).
use Rattle.std.specs.Prelude.{ℕ, ◌-◌, ◌≡◌, ◌⊎◌, ◌==◌, ◌&&◌, Bool, true, false, not, List, [], ◌∷◌}
use Rattle.std.specs.Prelude.{Option, Some, None, bytes_eq, if◌then◌else◌, map, filter, take, drop}
use Rattle.std.specs.Prelude.{take_while}
use Rattle.std.specs.Str.{byte}
use Rattle.std.specs.List.{before_first, after_first, list_any, join_with_byte}
use Rattle.bag_text.specs.Bytes.{Content, Line}
use Rattle.bag_text.specs.Rules.{label_of, may_follow_colon}
use Rattle.bag_text.specs.Text.{IsNoText, trim, begins_with_blank, ends_with_blank, is_blank_line}
use Rattle.bag_text.specs.Lines.{lines_of_file, IsLine, line_feed}
use Rattle.bag_text.specs.declared.code.Code.{Code}
use Rattle.bag_text.specs.declared.code.Code.TheVariants.{NotUtf8, InfoLine}
use Rattle.bag_text.specs.declared.rules.Rules.{Rules}
use Rattle.bag_read.specs.declared.line_fault.LineFault.{LineFault}
use Rattle.bag_read.specs.declared.info.Element.{Element}

-- a line that isn't blank and begins with a blank
abbrev pub is_continuation : Line → Bool
is_continuation line = not (is_blank_line line) && begins_with_blank line

-- a line that is neither blank nor a continuation
abbrev pub begins_element : Line → Bool
begins_element line = not (is_blank_line line) && not (begins_with_blank line)

abbrev pub is_colon : ℕ → Bool
is_colon c = c == byte ":"

-- a label isn't empty and doesn't end with a blank
abbrev pub is_label : List ℕ → Bool
is_label t = not (bytes_eq t []) && not (ends_with_blank t)

-- the label and what follows the first colon, where the line splits there
abbrev pub split : Rules → Line → Option (List ℕ × List ℕ)
split rules line =
    let label = label_of rules (before_first is_colon line) in
    let rest = after_first is_colon line in
    if list_any is_colon line && is_label label && may_follow_colon rules rest
    then Some (label, rest) else None

-- the continuations up to the next line that is neither blank nor a continuation
abbrev pub leading_continuations : List Line → List Line
leading_continuations lines =
    filter is_continuation (take_while (λ line. not (begins_element line)) lines)

-- the continuations that belong to line k
abbrev pub continuations : List Line → ℕ → List Line
continuations all k = leading_continuations (drop k all)

-- the trimmed parts, joined by one LF
abbrev pub value_of_parts : List (List ℕ) → List ℕ
value_of_parts parts = join_with_byte line_feed (map trim parts)

-- an element: its line splits, and its value goes on over the continuations
abbrev pub IsElement : Rules → List Line → Element → Type 0
IsElement rules all e =
    (line part : List ℕ)
    × IsLine all e.line line
    × (begins_element line ≡ true)
    × (split rules line ≡ Some (e.label, part))
    × (e.value ≡ value_of_parts (part ∷ continuations all e.line))

-- a line that should begin an element and doesn't split
abbrev pub DoesNotSplit : Rules → Line → Type 0
DoesNotSplit rules line = (begins_element line ≡ true) × (split rules line ≡ None)

-- a continuation before which no line begins an element
abbrev pub IsOrphan : List Line → ℕ → Line → Type 0
IsOrphan all k line =
    (is_continuation line ≡ true) × (list_any begins_element (take (k - 1) all) ≡ false)

-- what is wrong with the file: by cases on the fault's code
abbrev pub InfoFault : Rules → Code → Content → LineFault → Type 0
InfoFault rules NotUtf8 bytes f = (f.line ≡ 0) × (f.detail ≡ []) × IsNoText bytes
InfoFault rules InfoLine bytes f =
    let all = lines_of_file bytes in
    (line : List ℕ) × (f.detail ≡ []) × IsLine all f.line line
    × (DoesNotSplit rules line ⊎ IsOrphan all f.line line)
InfoFault rules other bytes f = ⊥

abbrev pub IsInfoFault : Rules → Content → LineFault → Type 0
IsInfoFault rules bytes f = InfoFault rules f.code bytes f
