-- The elements that are written to bag-info.txt (RFC 8493, 2.2.2).
use Rattle.std.specs.Prelude.{ℕ, ◌||◌, Bool, not, List, [], ◌∷◌, ◌++◌, bytes_eq, codes, flat_map}
use Rattle.std.specs.List.{list_any}
use Rattle.bag_text.specs.Bytes.{Content}
use Rattle.bag_text.specs.Text.{IsText, trim, has_mark}
use Rattle.bag_text.specs.Lines.{line_feed}
use Rattle.bag_text.specs.LineEnd.{is_line_end}
use Rattle.bag_read.specs.Info.{is_colon}

-- a label and its value
abbrev pub NewElement : Type 0
NewElement = List ℕ × List ℕ

-- they are texts
abbrev pub AreTexts : NewElement → Type 0
AreTexts element = IsText element.0 × IsText element.1

-- LABEL: VALUE
abbrev pub info_line : NewElement → List ℕ
info_line element = element.0 ++ codes ": " ++ element.1

-- a line for each element, in their order
abbrev pub info_text : List NewElement → Content
info_text elements = flat_map (λ element. info_line element ++ line_feed ∷ []) elements

-- a text that begins or ends with a blank: trimming changes it
abbrev pub has_outer_blank : List ℕ → Bool
has_outer_blank t = not (bytes_eq (trim t) t)

-- a label that is empty, has a colon or a line end, begins or ends with a blank, or begins with a
-- byte order mark
abbrev pub is_bad_label : List ℕ → Bool
is_bad_label t =
    bytes_eq t [] || list_any is_colon t || list_any is_line_end t || has_outer_blank t
    || has_mark t

-- a value that has a line end, or begins or ends with a blank
abbrev pub is_bad_value : List ℕ → Bool
is_bad_value t = list_any is_line_end t || has_outer_blank t

-- an element that can't be written
abbrev pub is_bad_element : NewElement → Bool
is_bad_element element = is_bad_label element.0 || is_bad_value element.1
