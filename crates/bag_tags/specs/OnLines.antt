-- Elements whose values stand over several lines (RFC 8493, 2.2.2).
use Rattle.std.specs.Prelude.{ℕ, ◌==◌, ◌||◌, Bool, List, [], ◌∷◌, ◌++◌, bytes_eq, codes, drop}
use Rattle.std.specs.Prelude.{flat_map, if◌then◌else◌}
use Rattle.std.specs.List.{list_any, slice_split}
use Rattle.bag_text.specs.Bytes.{Content}
use Rattle.bag_text.specs.Lines.{line_feed}
use Rattle.bag_text.specs.Text.{tab}
use Rattle.bag_tags.specs.Element.{NewElement, is_bad_label, is_bad_value}

-- the lines of a value
abbrev pub value_lines : List ℕ → List (List ℕ)
value_lines value = slice_split (λ c. c == line_feed) value

-- a value whose lines after the first begin with a tab, so that they go on with the element
abbrev pub on_lines : List ℕ → List ℕ
on_lines value = flat_map (λ c. if c == line_feed then line_feed ∷ tab ∷ [] else c ∷ []) value

-- the text of elements, of which the value of each may go on over several lines
abbrev pub text_on_lines : List NewElement → Content
text_on_lines elements =
    flat_map (λ element. element.0 ++ codes ": " ++ on_lines element.1 ++ line_feed ∷ []) elements

-- a value of which a line has a CR, or begins or ends with a blank, or is empty and not the first
abbrev pub is_bad_long_value : List ℕ → Bool
is_bad_long_value value =
    list_any is_bad_value (value_lines value)
    || list_any (λ line. bytes_eq line []) (drop 1 (value_lines value))

-- an element that can't be written, also not over several lines
abbrev pub is_bad_long_element : NewElement → Bool
is_bad_long_element element = is_bad_label element.0 || is_bad_long_value element.1
