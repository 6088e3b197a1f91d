-- The names that this crate's proofs cite, passed on from one place. Declares nothing.
pub use Rattle.std.proofs.Common.{Bool, Err, List, None, Ok, OnErr, Option, Result, Some, [], ap, append_assoc, arith}
pub use Rattle.std.proofs.Common.{bytes_eq, codes, drop, eqb, false, flat_map, get_or, inl, inr, length, length-drop}
pub use Rattle.std.proofs.Common.{length-take, lit<, map, nat_lt, not, option_map, refl, reverse, string_bytes, subst}
pub use Rattle.std.proofs.Common.{suc, sym, take, true, unwrap_or, zero, ℕ, ◌&&◌, ◌++◌, ◌+◌, ◌-◌, ◌<◌, ◌∙◌, ◌∷◌, ◌≡◌}
pub use Rattle.std.proofs.Common.{◌≢◌, ◌≤◌}
pub use Rattle.std.proofs.Math.Seq.{drop-append-add}
pub use Rattle.std.proofs.lemmas.Bool.{eqb-true, false_from_ne_true, true≢false}
pub use Rattle.std.proofs.lemmas.Bool.Decides.{nat_tests}
pub use Rattle.std.proofs.lemmas.List.{append-nil, get_or-map, get_or-reverse, length-map, length-reverse, take-map}
pub use Rattle.std.proofs.lemmas.List.Elements.{All-drop, All-from_recursion, All-take, recursion_from_All}
pub use Rattle.std.proofs.lemmas.List.Folds.{list_any-append}
pub use Rattle.std.proofs.lemmas.Map.Keys.{IsDistinct-IsPermutation, IsDistinct-from_apart, IsDistinct-from_sorted}
pub use Rattle.std.proofs.lemmas.Map.Keys.{IsDistinct-head, IsDistinct-tail, apart_from_distinct}
pub use Rattle.std.proofs.lemmas.Map.Keys.{sorted_from_all_adjacent}
pub use Rattle.std.proofs.lemmas.Option.{get_or_from_slice_get, none-some, slice_get-get_or, slice_get-map}
pub use Rattle.std.proofs.lemmas.Option.{slice_get_within}
pub use Rattle.std.proofs.lemmas.Slice.Eq.{bytes_eq-Decides}
pub use Rattle.std.proofs.lemmas.Str.{IsUtf8-append, IsUtf8-encode, IsUtf8-from_ascii, IsUtf8-from_is_utf8, IsUtf8-nil}
pub use Rattle.std.proofs.lemmas.Str.{is_utf8-from_IsUtf8}
pub use Rattle.std.specs.Borrow.{Bor}
pub use Rattle.std.specs.Char.{IsScalar, is_ascii_hexdigit}
pub use Rattle.std.specs.List.{AllByRecursion, IsDistinct, after_first, before_first, list_all, list_any}
pub use Rattle.std.specs.List.{position_or_len, prefix_len, slice_get, suffix_len}
pub use Rattle.std.specs.Prelude.{Contains, IsTrue, ◌↔◌}
pub use Rattle.std.specs.Str.{IsUtf8, all_scalars, encode_utf8_all, str_to_ascii_lowercase}
pub use Rattle.std.specs.declared.cmp.Ordering.TheVariants.{Less}
pub use Rattle.bag_read.proofs.LineParts.{empty_test, not_empty, not_false, not_true, or_false}
pub use Rattle.bag_read.proofs.PickedOut.{both_true}
pub use Rattle.bag_read.specs.Info.{InfoFault, IsElement, begins_element, continuations, is_colon, is_label}
pub use Rattle.bag_read.specs.Info.{leading_continuations, split, value_of_parts}
pub use Rattle.bag_read.specs.LineParts.{BeginsUnblank, IsCutAtBlanks}
pub use Rattle.bag_read.specs.Manifest.{IsEntry, ManifestFault, ReadsManifest, manifest_line, named, named_before}
pub use Rattle.bag_read.specs.ManifestName.{is_manifest_name}
pub use Rattle.bag_read.specs.declared.kind.Kind.{Kind}
pub use Rattle.bag_read.specs.declared.kind.Kind.TheVariants.{Payload, Tag}
pub use Rattle.bag_read.specs.declared.line_fault.LineFault.{LineFault}
pub use Rattle.bag_text.proofs.SpellingLaws.{read_again, strict_spellings, unescaped_plain}
pub use Rattle.bag_text.specs.LineEnd.{is_line_end}
pub use Rattle.bag_text.specs.Lines.{IsLine, line_feed, lines, lines_of_file}
pub use Rattle.bag_text.specs.Laws.{HasNoEnd}
pub use Rattle.bag_text.specs.Path.{is_path, is_payload_path}
pub use Rattle.bag_text.specs.Spelling.{both, percent, unescaped_strictly}
pub use Rattle.bag_text.specs.Escape.{escape, escape_one}
pub use Rattle.bag_text.specs.Text.{IsText, ends_with_blank, has_mark, is_blank, is_some_blank, text_cmp, trim}
pub use Rattle.bag_text.specs.declared.alg.Alg.{Alg}
pub use Rattle.bag_text.specs.declared.code.Code.{Code}
pub use Rattle.bag_text.specs.declared.code.Code.TheVariants.{InfoLine, NamedAgain, NotUtf8}
pub use Rattle.bag_text.specs.declared.rules.Rules.TheVariants.{V10}
pub use Rattle.bag_tags.specs.Distinct.{TextsAscend, lent_texts}
pub use Rattle.bag_tags.specs.Element.{AreTexts, NewElement, has_outer_blank, info_line, info_text, is_bad_element}
pub use Rattle.bag_tags.specs.Entry.{NewEntry, entry_line, manifest_text}
pub use Rattle.bag_tags.specs.Writable.{NamesEachOnce, begins_with_mark, is_bad_digest}
pub use Rattle.bag_tags.specs.Writable.{is_bad_entry, is_bad_path, is_lower_hex_digit}
pub use Rattle.bag_tags.specs.Writable.{may_name, paths}
pub use Rattle.bag_tags.specs.ReadAgain.{DeclarationIsReadAgain, InfoIsReadAgain, ManifestIsReadAgain, StandsOn}
