-- The arguments that the command line has.
use Rattle.std.specs.Prelude.{List, [], ◌∷◌, Some, codes, map}
use Rattle.bag_text.specs.Alg.{algs, name}
use Rattle.clap.specs.Lexer.{usize_max}
use Rattle.clap.specs.Words.{App, Rule, Text, new_app}
use Rattle.clap.specs.declared.builder.value_parser.ValueParser.TheVariants.{Unsigned}
use Rattle.bag_words.specs.Rules.{flag_rule, operands_rule, option_rule, with_rules}
use Rattle.bag_words.specs.Rules.{without_program_name}
use Rattle.bag_arguments.specs.Labels.{all_labels, label_option}

-- `--NAME N`, a number of 1 or more
abbrev pub number_rule : Text → Rule
number_rule name = record (option_rule name) { parser = Some (Unsigned 1 usize_max) }

-- what is done, how much is said, and to which folders
abbrev pub main_arguments : List Rule
main_arguments =
    flag_rule (codes "validate") ∷ flag_rule (codes "quiet")
    ∷ operands_rule (codes "directory") ∷ []

-- those that need --validate, but for the next ones
abbrev pub check_arguments : List Rule
check_arguments =
    flag_rule (codes "fast")
    ∷ flag_rule (codes "completeness-only")
    ∷ flag_rule (codes "declaration-only")
    ∷ option_rule (codes "profile")
    ∷ option_rule (codes "after")
    ∷ number_rule (codes "max-faults")
    ∷ flag_rule (codes "clashes")
    ∷ []

-- those that say what the words are, or of which part the report is
abbrev pub word_arguments : List Rule
word_arguments =
    option_rule (codes "part") ∷ flag_rule (codes "tar") ∷ flag_rule (codes "join") ∷ []

-- those of the algorithms
abbrev pub alg_arguments : List Rule
alg_arguments = map (λ alg. flag_rule (name alg)) algs

-- those of the labels
abbrev pub label_arguments : List Rule
label_arguments = map (λ label. option_rule (label_option label)) all_labels

-- the command, with no rule from one argument to another
unfoldable pub command : App
command =
    with_rules (with_rules (with_rules
    (with_rules (with_rules (without_program_name (new_app (codes "bagit"))) main_arguments)
    check_arguments) word_arguments) alg_arguments) label_arguments
