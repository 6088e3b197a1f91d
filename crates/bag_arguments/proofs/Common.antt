-- The names that this crate's proofs cite, passed on from one place. Declares nothing.
pub use Rattle.std.proofs.Common.{Bool, Err, List, None, Ok, Option, Result, Some, [], ap, ap₂, arith}
pub use Rattle.std.proofs.Common.{bytes_eq, codes, false, filter, fold, get_or, if◌then◌else◌, inl, inr, is_some}
pub use Rattle.std.proofs.Common.{length, map, not, option_map, refl, subst, sym, take, true}
pub use Rattle.std.proofs.Common.{unwrap_or, ℕ, ◌&&◌, ◌++◌, ◌+◌, ◌<◌, ◌==◌, ◌||◌, ◌∙◌, ◌∷◌, ◌≡◌, ◌≢◌, ◌⊎◌}
pub use Rattle.std.proofs.lemmas.List.{take_all, take_more}
pub use Rattle.std.proofs.lemmas.List.Elements.{All-get_or, filter_map-append}
pub use Rattle.std.proofs.lemmas.List.Sums.{fold_more}
pub use Rattle.std.proofs.lemmas.Result.{IfOk-weaker}
pub use Rattle.std.proofs.lemmas.Slice.Eq.{bytes_eq-Decides}
pub use Rattle.std.specs.Borrow.{Bor}
pub use Rattle.std.specs.List.{All, filter_map, list_all, slice_index_or}
pub use Rattle.std.specs.Prelude.{slice_get}
pub use Rattle.std.specs.Str.Parse.{ParsesUnsigned}
pub use Rattle.bag_text.specs.Alg.{algs, name}
pub use Rattle.bag_text.specs.declared.alg.Alg.{Alg}
pub use Rattle.clap.proofs.WalkLemmas.{first_value-rows}
pub use Rattle.clap.specs.Facts.{EntryPasses, PassesArg, parser_of_value}
pub use Rattle.clap.specs.Simple.{app_of_fields}
pub use Rattle.clap.specs.Words.{App, IsParsedFrom, Kinds, Row, Rule, Text, app_of}
pub use Rattle.clap.specs.Words.{args_of, fault_of, first_value, found_of, groups_of}
pub use Rattle.clap.specs.Words.{matched_of, matches_of, rows_of, takes, with_rule}
pub use Rattle.clap.specs.declared.builder.arg.Arg.{Arg}
pub use Rattle.clap.specs.declared.builder.command.Command.{Command}
pub use Rattle.clap.specs.declared.builder.value_parser.ValueParser.{ValueParser}
pub use Rattle.bag_arguments.specs.Arguments.{alg_arguments, check_arguments, label_arguments}
pub use Rattle.bag_words.specs.Rules.{flag_rule}
pub use Rattle.bag_arguments.specs.Arguments.{main_arguments}
pub use Rattle.bag_words.specs.Rules.{option_rule, with_rules, without_program_name}
pub use Rattle.bag_arguments.specs.Arguments.{word_arguments}
pub use Rattle.bag_arguments.specs.Given.{IsLimit, element, has_after_several, has_join_with_other, has_two_depths}
pub use Rattle.bag_arguments.specs.GivenRows.{HasLimit, IsLimitText}
pub use Rattle.bag_words.specs.Rows.{is_given}
pub use Rattle.bag_arguments.specs.Given.{or_default, out_of_place}
pub use Rattle.std.specs.Option.{option_to_list}
pub use Rattle.bag_arguments.specs.Labels.{label_option}
pub use Rattle.bag_arguments.specs.declared.label.Label.{Label}
unfoldable pub use Rattle.bag_arguments.specs.Arguments.{command}
unfoldable pub use Rattle.bag_arguments.specs.Words.{clap_takes, matches_of_words, refusals}
unfoldable pub use Rattle.clap.proofs.OnLiterals.{clap_on_literals}
