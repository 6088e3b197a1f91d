-- The names that this crate's proofs cite, passed on from one place. Declares nothing.
pub use Rattle.std.proofs.Common.{All, Bool, Contains, Err, List, None, Ok, Option, Result, Some, []}
pub use Rattle.std.proofs.Common.{ap, append_assoc, arith, bytes_eq, codes, cond, decimal}
pub use Rattle.std.proofs.Common.{false, flat_map, get_or, inl, inr, length, length-append, lit<}
pub use Rattle.std.proofs.Common.{nat_lt, not, refl, subst, suc, sym, take, true, unwrap_or}
pub use Rattle.std.proofs.Common.{zero, ℕ, ◌++◌, ◌<◌, ◌==◌, ◌^◌, ◌||◌, ◌↔◌, ◌∙◌, ◌∷◌, ◌≡◌, ◌≢◌, ◌≤◌, ◌⊎◌}
pub use Rattle.std.proofs.lemmas.Bool.{agree_below, agree_below_at, and_parts, both_ways, cond_both}
pub use Rattle.std.proofs.lemmas.Bool.Decides.{nat_tests}
pub use Rattle.std.proofs.lemmas.Cmp.{on_total, then_total}
pub use Rattle.std.proofs.lemmas.Fmt.{decimal_injective, decimal_is_IsNumeral, first_decimal, parse-decimal}
pub use Rattle.std.proofs.lemmas.Grind.{common_steps}
pub use Rattle.std.proofs.lemmas.List.{take-take}
pub use Rattle.std.proofs.lemmas.List.Elements.{All-append, All-cons, All-contains, All-from_get_or}
pub use Rattle.std.proofs.lemmas.List.Elements.{All-head, All-nil, All-tail}
pub use Rattle.std.proofs.lemmas.Result.{err_from_is_err_and}
pub use Rattle.std.proofs.lemmas.Slice.Eq.{bytes_eq-Decides}
pub use Rattle.std.proofs.lemmas.Str.{IsCharBoundary-from_take, IsUtf8-string_bytes}
pub use Rattle.std.specs.Cmp.{IsTotalOrder, nat_cmp_total}
pub use Rattle.std.specs.Cmp.Lexicographic.{nat_list_cmp_total}
pub use Rattle.std.specs.FinMap.{IsAntisymmetric, nat_cmp-IsAntisymmetric}
pub use Rattle.std.specs.FinMap.{slice_cmp-IsAntisymmetric}
pub use Rattle.std.specs.List.{AllByRecursion, join_with_byte, list_all}
unfoldable pub use Rattle.std.specs.List.Sorted.{IsStrictlySortedBy}
pub use Rattle.std.specs.Option.{ok_or}
pub use Rattle.std.specs.Ordering.{eq_by_cmp, nat_cmp, ordering_then}
pub use Rattle.std.specs.Prelude.{IsUtf8, MatchOption, OnErr, OnOk, is_err, string_bytes}
pub use Rattle.std.specs.Result.{IfErr, IsErrAnd, is_ok}
pub use Rattle.std.specs.Str.{IsCharBoundary, all_scalars, encode_utf8_all}
pub use Rattle.std.specs.declared.cmp.Ordering.{Ordering}
pub use Rattle.std.specs.declared.cmp.Ordering.TheVariants.{Equal, Less}
pub use Rattle.bag_text.proofs.AlgSets.{each_is_listed, name_is_read_again, names_tell_apart}
pub use Rattle.bag_text.specs.Alg.{alg_named, algs, name, rank, rank_or_zero}
pub use Rattle.bag_text.specs.Code.{number, stage}
pub use Rattle.bag_text.specs.CodeList.{all_codes}
pub use Rattle.bag_text.specs.CodeWord.{word}
pub use Rattle.bag_text.specs.declared.alg.Alg.{Alg}
pub use Rattle.bag_text.specs.declared.alg.Alg.TheVariants.{Sha224, Sha384}
pub use Rattle.bag_text.specs.declared.code.Code.{Code}
pub use Rattle.bag_tree.specs.Pieces.{IsTaken}
pub use Rattle.percent_encoding.proofs.PercentLemmas.{All-percent_encode, IsByte, IsEscapeByte, round_trip}
pub use Rattle.percent_encoding.specs.AsciiSet.{contains}
unfoldable pub use Rattle.percent_encoding.specs.AsciiSet.{should_percent_encode}
unfoldable pub use Rattle.percent_encoding.specs.Percent.{percent_decode, percent_encode, percent_encode_byte}
pub use Rattle.bag_faults.specs.FaultLine.{alg_field, encoded, field, is_encoded, line_field}
pub use Rattle.bag_faults.specs.Laws.{LinesTellFaultsApart, EqualFaultsAreOne, OneOfThree}
pub use Rattle.bag_faults.specs.FaultOrder.{fault_cmp}
pub use Rattle.bag_faults.specs.declared.field.TheConstants.{ESCAPED, ESCAPED_HYPHEN}
