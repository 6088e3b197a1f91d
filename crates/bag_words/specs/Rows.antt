-- The rows of a group of words: what is given for each argument.
use Rattle.std.specs.Prelude.{Bool, List, [], Option, bytes_eq, codes, map, unwrap_or}
use Rattle.std.specs.Borrow.{Bor}
use Rattle.clap.specs.Words.{Row, Text, all_of, first_of, found_of, one_of, rows_of}
use Rattle.clap.specs.declared.parser.matches.ArgMatches.{ArgMatches}

-- the texts of the words
abbrev pub texts_of_words : List (Bor Text) → List Text
texts_of_words words = map (λ word. word.now) words

-- what the matches hold: each argument that is given, with its values
abbrev pub rows_in : ArgMatches → List Row
rows_in found = rows_of (found_of found)

-- whether an option without a value is given
abbrev pub is_given : List Row → Text → Bool
is_given rows id = bytes_eq (unwrap_or (one_of id rows) []) (codes "true")

-- the value of an option
abbrev pub value : List Row → Text → Option Text
value rows id = first_of id rows

-- all values of an argument
abbrev pub values : List Row → Text → List Text
values rows id = unwrap_or (all_of id rows) []

-- the directories that are given
abbrev pub directories : List Row → List Text
directories rows = values rows (codes "directory")
