-- The names that this crate's proofs cite, passed on from one place. Declares nothing.
pub use Rattle.std.proofs.Common.{Bool, Err, List, None, Option, Some, [], ap, ap₂, arith, bytes_eq, codes, false, fold}
pub use Rattle.std.proofs.Common.{if◌then◌else◌, inl, inr, is_some, length, map, min, nat_lt, option_map, refl, subst, suc}
pub use Rattle.std.proofs.Common.{sym, take, true, unwrap_or, zero, ℕ, ◌∙◌, ◌∷◌, ◌≡◌, ◌≢◌}
pub use Rattle.std.proofs.lemmas.List.{length-map}
pub use Rattle.std.proofs.lemmas.Result.{IfOk-weaker}
pub use Rattle.std.proofs.lemmas.Slice.Eq.{bytes_eq-Decides}
pub use Rattle.std.specs.Borrow.{Bor}
pub use Rattle.std.specs.Prelude.{slice_get, ⊤}
pub use Rattle.std.specs.Str.Parse.{ParsesBool}
pub use Rattle.clap.proofs.WalkLemmas.{first_value-rows, one_text-rows, raw_values-rows}
pub use Rattle.clap.specs.Simple.{Shape, argument_words, built}
pub use Rattle.clap.specs.Words.{AddsArg, App, HasKind, Kinds, ReadsOne, Row, Rule, Text, app_of, fault_of, found_of}
pub use Rattle.clap.specs.Words.{is_simple, is_simple_and_free, kind_of, matched_of, matches_of, one_text, raw_values}
pub use Rattle.clap.specs.Words.{rows_of, rule_of, with_rule}
pub use Rattle.clap.specs.declared.builder.arg.Arg.{Arg}
pub use Rattle.clap.specs.declared.builder.command.Command.{Command}
pub use Rattle.clap.specs.declared.builder.value_parser.ValueParser.{ValueParser}
pub use Rattle.clap.specs.declared.error.kind.ErrorKind.TheVariants.{OutOfMemory}
pub use Rattle.bag_words.specs.Rows.{values}
pub use Rattle.bag_words.specs.Rules.{with_rules}
