-- The names that this crate's proofs cite, passed on from one place. Declares nothing.
pub use Rattle.std.proofs.Common.{All, Bool, Bor, IsTrue, List, None, Option, Some, [], ap, append-nil, append_assoc}
pub use Rattle.std.proofs.Common.{arith, bytes_eq, cond, drop, encode_utf8, eqb, false, filter, find, get_or, inl, inr}
pub use Rattle.std.proofs.Common.{is_some, length, lit<, map, min, nat_eq, nat_lt, not, position, refl, replicate}
pub use Rattle.std.proofs.Common.{reverse, rules, set, string_bytes, subst, suc, sym, take, true, unwrap_or, zero, ℕ}
pub use Rattle.std.proofs.Common.{◌&&◌, ◌++◌, ◌+◌, ◌-◌, ◌<◌, ◌==◌, ◌^◌, ◌||◌, ◌↔◌, ◌∙◌, ◌∷◌, ◌≡◌, ◌≢◌, ◌≤◌, ◌⊎◌}
pub use Rattle.std.proofs.Math.Seq.{drop-cons, take-append-add, take-append_seam}
pub use Rattle.std.proofs.lemmas.Bool.{and_parts, both_ways, cases_Bool, cases_lt, eqb-false, eqb-true}
pub use Rattle.std.proofs.lemmas.Bool.{false_from_ne_true, or_cases, or_right}
pub use Rattle.std.proofs.lemmas.Bool.Decides.{nat_tests}
pub use Rattle.std.proofs.lemmas.Grind.{common_steps, get_or-set_at}
pub use Rattle.std.proofs.lemmas.List.{drop-replicate, drop_all, get_or-drop, get_or-reverse, get_or-set_other}
pub use Rattle.std.proofs.lemmas.List.{get_or-take}
pub use Rattle.std.proofs.lemmas.List.{get_or_default, length-drop, length-reverse, length-take-le, reverse-append}
pub use Rattle.std.proofs.lemmas.List.{reverse-reverse, take-append-drop, take-append-le, take-replicate, take_more}
pub use Rattle.std.proofs.lemmas.List.Elements.{All-contains, All-from_recursion, Contains-get_or, filter-append}
pub use Rattle.std.proofs.lemmas.List.Elements.{filter_more, recursion_from_All}
pub use Rattle.std.proofs.lemmas.List.Folds.{list_all-append, list_all_at, list_any_at}
pub use Rattle.std.proofs.lemmas.List.Sums.{AllPass-from_list_all, common_prefix_len-le, list_all-from_AllPass}
pub use Rattle.std.proofs.lemmas.List.Sums.{position_or_len_is, prefix_len-le-length, prefix_len_passes}
pub use Rattle.std.proofs.lemmas.List.Sums.{prefix_len_stops, suffix_len-le-length}
pub use Rattle.std.proofs.lemmas.List.Sorted.{IsPermutation-trans, answers_always, ranks_by}
pub use Rattle.std.proofs.lemmas.Option.{none-some, same_Some}
pub use Rattle.std.proofs.lemmas.Str.{IsCharBoundary-after_ascii, IsCharBoundary-before_ascii, IsCharBoundary-end}
pub use Rattle.std.proofs.lemmas.Str.{IsCharBoundary-start, IsUtf8-from_is_utf8, NoCharPasses-byte, encode_ascii}
pub use Rattle.std.proofs.lemmas.Str.{encodes-append, is_utf8-from_IsUtf8}
pub use Rattle.std.proofs.lemmas.Str.Pattern.{split_parts}
pub use Rattle.std.specs.Char.{to_ascii_lowercase}
pub use Rattle.std.specs.Cmp.Lexicographic.{nat_list_cmp_total}
pub use Rattle.std.specs.List.{AllByRecursion, AllPass, IsAllAdjacentAnswer, common_prefix_len, enumerate_from}
pub use Rattle.std.specs.List.{join_with_byte, list_all, list_any, onto_first, prefix_len, slice_index_or}
pub use Rattle.std.specs.List.{starts_with, suffix_len}
pub use Rattle.std.specs.List.Sorted.{IsPermutation, IsSortedByKey}
pub use Rattle.std.specs.Option.{option_map, option_to_list}
pub use Rattle.std.specs.Ordering.{is_le, is_lt, ordering_reverse}
pub use Rattle.std.specs.Prelude.{Contains, IfNone}
pub use Rattle.std.specs.Str.{IsCharBoundary, IsUtf8, NoCharPasses, encode_utf8_all, is_utf8}
pub use Rattle.memchr.specs.Find.{IsFirstByte, Nowhere, Passes, is_byte2}
pub use denote.Shadow.{shadow}
pub use denote.Text.{Utf8}
pub use Rattle.bag_text.specs.Alg.{algs, rank, rank_cmp}
pub use Rattle.bag_text.specs.Laws.{EachIsListed, ListAscends, NameIsReadAgain, NamesTellApart, Cut}
pub use Rattle.bag_text.specs.Laws.{HasNoEnd, IsEnd, LinesAreTheOnlyCut, PathsAreJoinedComponents}
pub use Rattle.bag_text.specs.Laws.{EscapedIsReadAgain, UnescapedIsSpelled}
pub use Rattle.bag_text.specs.AlgList.{has_member, same_alg, with_member}
pub use Rattle.bag_text.specs.AlgSet.{IsTable, flag_of, members}
pub use Rattle.bag_text.specs.AlgTable.{flags_are, has_each, has_member-filter, same_alg_same, same_rank}
pub use Rattle.bag_text.specs.LineEnd.{end_len, is_line_end}
pub use Rattle.bag_text.specs.Lines.{IsLine, carriage_return, line_feed, lines}
pub use Rattle.bag_text.specs.Path.{components, is_component, is_path, slash}
pub use Rattle.bag_text.specs.SortKey.{CommonFrontIsTheLongest, IsFront, IsLongestFront, common_front, front_of_sixteen}
pub use Rattle.bag_text.specs.Spells.{BeginsWithNone, SpellsLineEnds, SpellsStrictly}
pub use Rattle.bag_text.specs.Spelling.{both, escaped, itself, line_end}
pub use Rattle.bag_text.specs.Escape.{escape, escape_one}
pub use Rattle.bag_text.specs.Spelling.{percent, unescaped_strictly, with_line_ends}
pub use Rattle.bag_text.specs.Text.{is_blank, text_cmp, without_leading_blanks, without_trailing_blanks}
pub use Rattle.bag_text.specs.declared.path.PathPart.{PathPart}
pub use Rattle.bag_text.specs.declared.path.PathPart.TheVariants.{Empty, Name}
