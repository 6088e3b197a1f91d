-- The algorithms that a text lists, and the element that it writes.
use Rattle.std.specs.Prelude.{ℕ, ◌==◌, Bool, List, Option, Some, None, bytes_eq, is_some}
use Rattle.std.specs.Prelude.{if◌then◌else◌}
use Rattle.std.specs.List.{after_first, before_first, list_all, list_any, slice_split}
use Rattle.std.specs.Str.{byte}
use Rattle.clap.specs.Words.{Text}
use Rattle.bag_text.specs.Alg.{alg_named, name}
use Rattle.bag_text.specs.Text.{trim}
use Rattle.bag_text.specs.declared.alg.Alg.{Alg}
use Rattle.bag_tags.specs.Element.{NewElement}
use Rattle.bag_renewed.specs.Renewed.{algs_where}

abbrev pub is_comma : ℕ → Bool
is_comma c = c == byte ","

-- the parts between commas
abbrev pub names_in : Text → List Text
names_in text = slice_split is_comma text

-- each is the name of an algorithm
abbrev pub are_algs : List Text → Bool
are_algs names = list_all (λ part. is_some (alg_named part)) names

-- one is the name of the algorithm
abbrev pub has_alg : List Text → Alg → Bool
has_alg names alg = list_any (bytes_eq (name alg)) names

-- the algorithms that are named, in their order
abbrev pub algs_among : List Text → List Alg
algs_among names = algs_where (has_alg names)

-- the algorithms that a text lists; none where a part isn't the name of one
abbrev pub algs_listed : Text → Option (List Alg)
algs_listed text =
    if are_algs (names_in text) then Some (algs_among (names_in text)) else None

abbrev pub is_equals : ℕ → Bool
is_equals c = c == byte "="

-- a text writes an element where it has an equals sign
abbrev pub is_element : Text → Bool
is_element text = list_any is_equals text

-- its label is what stands before the first, and its value what follows, without the blanks at both
-- ends
abbrev pub element : Text → NewElement
element text = (before_first is_equals text, trim (after_first is_equals text))
