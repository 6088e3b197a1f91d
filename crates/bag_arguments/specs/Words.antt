-- What clap makes of the words.
use Rattle.std.specs.Prelude.{Bool, List}
use Rattle.clap.specs.Words.{Kinds, Row, Text, fault_of, matches_of, takes}
use Rattle.bag_arguments.specs.Arguments.{command}

-- why the words are refused, or that help is asked for; empty where they are taken
unfoldable pub refusals : List Text → Kinds
refusals words = fault_of command words

-- what is given, where the words are taken
unfoldable pub matches_of_words : List Text → List Row
matches_of_words words = matches_of command words

-- whether clap takes the words: it then refuses them only when out of memory
unfoldable pub clap_takes : List Text → Bool
clap_takes words = takes command words
