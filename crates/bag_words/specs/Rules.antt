-- Arguments, and commands of them.
use Rattle.std.specs.Prelude.{true, List, Some, fold}
use Rattle.clap.specs.Lexer.{usize_max}
use Rattle.clap.specs.Words.{App, Rule, Text, new_rule, with_rule}
use Rattle.clap.specs.Simple.{on_top}
use Rattle.clap.specs.declared.builder.action.ArgAction.TheVariants.{Set, SetTrue}

-- `--NAME`
abbrev pub flag_rule : Text → Rule
flag_rule name = record (new_rule name) { long = Some name; action = Some SetTrue }

-- `--NAME TEXT`
abbrev pub option_rule : Text → Rule
option_rule name = record (new_rule name) { long = Some name; action = Some Set; value_names = 1 }

-- one or more of them, without an option
abbrev pub operands_rule : Text → Rule
operands_rule name = record (new_rule name) {
  required = true;
  value_names = 1;
  range = Some (record { start_inclusive = 1; end_inclusive = usize_max });
}

abbrev pub with_rules : App → List Rule → App
with_rules app rules = fold with_rule app rules

abbrev pub without_program_name : App → App
without_program_name = on_top (λ s. record s { no_binary_name = true })
