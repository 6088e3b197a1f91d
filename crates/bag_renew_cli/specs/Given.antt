-- What is given on a renewal's command line, by the matches of the words.
use Rattle.std.specs.Prelude.{Bool, ◌||◌, List, [], Option, Some, None, codes}
use Rattle.std.specs.Prelude.{option_and_then, is_some, length, map, nat_lt}
use Rattle.std.specs.List.{list_all}
use Rattle.clap.specs.Words.{Row, Text}
use Rattle.bag_text.specs.Alg.{alg_named}
use Rattle.bag_text.specs.declared.alg.Alg.{Alg}
use Rattle.bag_words.specs.Rows.{directories, is_given, value, values}
use Rattle.bag_tags.specs.Element.{NewElement}
use Rattle.bag_renew_cli.specs.Listed.{algs_listed, element, is_element}

-- the algorithms that an option lists; none where it isn't given
abbrev pub algs_of : Option Text → Option (List Alg)
algs_of None = Some []
algs_of (Some text) = algs_listed text

abbrev pub algs_given : List Row → Text → Option (List Alg)
algs_given rows id = algs_of (value rows id)

-- each value of an option writes an element
abbrev pub are_elements : List Row → Text → Bool
are_elements rows id = list_all is_element (values rows id)

abbrev pub elements : List Row → Text → List NewElement
elements rows id = map element (values rows id)

abbrev pub is_dry : List Row → Bool
is_dry rows = is_given rows (codes "dry-run")

-- ---- the manifest that is printed

abbrev pub prints : List Row → Bool
prints rows = is_some (value rows (codes "print"))

abbrev pub printed : List Row → Option Alg
printed rows = option_and_then alg_named (value rows (codes "print"))

abbrev pub has_lists : List Row → Bool
has_lists rows = is_some (value rows (codes "add")) || is_some (value rows (codes "drop"))

abbrev pub has_elements : List Row → Bool
has_elements rows =
    is_some (value rows (codes "unset"))
    || (is_some (value rows (codes "set")) || is_some (value rows (codes "append")))

-- something is asked for that no manifest is printed with
abbrev pub has_others : List Row → Bool
has_others rows =
    has_lists rows
    || (has_elements rows
    || (is_given rows (codes "unchecked") || (is_given rows (codes "to-1.0") || is_dry rows)))

abbrev pub has_several : List Row → Bool
has_several rows = nat_lt 1 (length (directories rows))
