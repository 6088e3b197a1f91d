-- The arguments that a renewal's command line has.
use Rattle.std.specs.Prelude.{List, [], ◌∷◌, Some, codes}
use Rattle.clap.specs.Words.{App, Rule, Text, new_app}
use Rattle.clap.specs.declared.builder.action.ArgAction.TheVariants.{Append}
use Rattle.bag_words.specs.Rules.{flag_rule, operands_rule, option_rule}
use Rattle.bag_words.specs.Rules.{with_rules, without_program_name}

-- `--NAME TEXT`, as often as wanted
abbrev pub several_rule : Text → Rule
several_rule name = record (option_rule name) { action = Some Append }

-- how it is done, how much is said, and to which bags
abbrev pub manner_arguments : List Rule
manner_arguments =
    flag_rule (codes "dry-run") ∷ option_rule (codes "print") ∷ flag_rule (codes "quiet")
    ∷ operands_rule (codes "directory") ∷ []

-- those that choose algorithms and the version
abbrev pub list_arguments : List Rule
list_arguments =
    option_rule (codes "add") ∷ option_rule (codes "drop") ∷ flag_rule (codes "unchecked")
    ∷ flag_rule (codes "to-1.0") ∷ []

-- those of elements
abbrev pub element_arguments : List Rule
element_arguments =
    several_rule (codes "unset") ∷ several_rule (codes "set") ∷ several_rule (codes "append") ∷ []

-- the command, with no rule from one argument to another
unfoldable pub command : App
command =
    with_rules (with_rules
    (with_rules (without_program_name (new_app (codes "bagit-renew"))) manner_arguments)
    list_arguments) element_arguments
