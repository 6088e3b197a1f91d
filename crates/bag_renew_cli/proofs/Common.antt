-- The names that this crate's proofs cite, passed on from one place. Declares nothing.
pub use Rattle.std.proofs.Common.{append-nil, append_assoc}
pub use Rattle.std.proofs.Common.{Bool, Err, List, None, Ok, Option, Result, Some, [], ap, arith}
pub use Rattle.std.proofs.Common.{bytes_eq, codes, drop, get_or, if◌then◌else◌, inl, inr, is_some}
pub use Rattle.std.proofs.Common.{length, map, not, refl, rules, subst, sym, take, tests, true}
pub use Rattle.std.proofs.Common.{ℕ, ◌&&◌, ◌++◌, ◌<◌, ◌∙◌, ◌∷◌, ◌≡◌, ◌≢◌}
pub use Rattle.std.proofs.lemmas.Iterator.{YieldsList-from_slice}
pub use Rattle.std.proofs.lemmas.Iterator.Search.{all_from_yields_List, any_from_yields_List}
pub use Rattle.std.proofs.lemmas.Result.{IfOk-weaker, err_from_is_err_and}
pub use Rattle.std.specs.Borrow.{Bor}
pub use Rattle.std.specs.Io.KnownBytes.{Appends}
pub use Rattle.std.specs.List.{list_all}
pub use Rattle.std.specs.Option.{option_or}
pub use Rattle.bag_text.specs.Alg.{name}
pub use Rattle.bag_text.specs.declared.alg.Alg.{Alg}
pub use Rattle.bag_faults.specs.FaultLine.{fault_line, field}
pub use Rattle.bag_tree.specs.Out.{IsCut, OutState}
pub use Rattle.bag_tree.specs.Tree.{cause_word}
pub use Rattle.bag_tree.specs.declared.out.Refused.{Refused}
pub use Rattle.bag_tree.proofs.Writing.{IsCut-append}
pub use Rattle.clap.specs.Simple.{app_of_fields}
pub use Rattle.clap.specs.Words.{App, Row, Text}
pub use Rattle.clap.specs.Words.{fault_of, found_of, matches_of, takes}
pub use Rattle.bag_words.proofs.Adding.{added}
pub use Rattle.bag_words.proofs.Reading.{values_of}
pub use Rattle.bag_words.specs.Rules.{with_rules, without_program_name}
pub use Rattle.bag_words.specs.Rows.{rows_in}
pub use Rattle.bag_renew_cli.specs.Arguments.{element_arguments, list_arguments, manner_arguments}
unfoldable pub use Rattle.clap.proofs.OnLiterals.{clap_on_literals}
unfoldable pub use Rattle.bag_renew_cli.specs.Arguments.{command}
unfoldable pub use Rattle.bag_renew_cli.specs.Words.{clap_takes, matches_of_words, refusals}
