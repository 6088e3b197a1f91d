-- The names that this crate's proofs cite, passed on from one place. Declares nothing.
pub use Rattle.std.proofs.Common.{Bool, Err, List, MatchOption, None, Ok, Option, Result, Some, [], add-zero, ap}
pub use Rattle.std.proofs.Common.{append-nil, append_assoc, arith, bytes_eq, codes, cond, drop, false, find, get_or}
pub use Rattle.std.proofs.Common.{inl, inr, length, length-append, lit<, map, nat_eq, nat_lt, not, refl, rules}
pub use Rattle.std.proofs.Common.{slice_index, slice_set, subst, suc, sym, take, true, zero, ℕ, ◌%◌, ◌&&◌, ◌*◌, ◌++◌}
pub use Rattle.std.proofs.Common.{◌+◌, ◌-◌, ◌/◌, ◌<◌, ◌==◌, ◌^◌, ◌||◌, ◌∙◌, ◌∷◌, ◌≡◌, ◌≢◌, ◌≤◌, ◌⊎◌}
pub use Rattle.std.proofs.Math.Nat.{eq-or-lt_of_le}
pub use Rattle.std.proofs.Math.Bool.{or-false, or_assoc}
pub use Rattle.std.proofs.Math.Seq.{drop-append_seam, get_or-append_seam, take-append_seam}
pub use Rattle.std.proofs.lemmas.Bool.{agree_below, agree_below_at, and_parts, both_ways, cases_Bool, cases_lt}
pub use Rattle.std.proofs.lemmas.Bool.{cases_order, eqb-false, eqb-true, false_from_ne_true, ne_eqb, not-false}
pub use Rattle.std.proofs.lemmas.Bool.{not-true, or_cases, or_parts}
pub use Rattle.std.proofs.lemmas.Bool.Decides.{Decides-eqb, nat_tests}
pub use Rattle.std.proofs.lemmas.Grind.{common_steps}
pub use Rattle.std.proofs.lemmas.List.{get_or-drop, get_or-map, get_or-take, length-drop, length-map, length-take}
pub use Rattle.std.proofs.lemmas.List.{map-append, take-append-drop, take_more, take_more_set}
pub use Rattle.std.proofs.lemmas.List.FromFn.{get_or-enumerate_from}
pub use Rattle.std.proofs.lemmas.List.Folds.{Any-from_list_any, length-prefix_len, list_any_at, list_any_none}
pub use Rattle.std.proofs.lemmas.List.Sums.{fails_before_first, passes_at_first, prefix_len_passes, prefix_len_stops}
pub use Rattle.std.proofs.lemmas.List.Sums.{take_while-cons}
pub use Rattle.std.proofs.lemmas.Option.{cond_some, get_or_from_slice_get, gets, none-some, option_and_then_some}
pub use Rattle.std.proofs.lemmas.Option.{slice_get-get_or, slice_get_past, slice_get_within}
pub use Rattle.std.proofs.lemmas.Result.{IfOk-weaker}
pub use Rattle.std.proofs.lemmas.Slice.Eq.{bytes_eq-Decides, starts_is}
pub use Rattle.std.specs.BTreeSet.{contains, contains_by}
pub use Rattle.std.specs.Borrow.{Bor}
pub use Rattle.std.specs.Char.{is_ascii_digit, is_ascii_hexdigit, to_ascii_lowercase}
pub use Rattle.std.specs.Cmp.{IsTotalOrder, nat_cmp_is}
pub use Rattle.std.specs.List.{AllByRecursion, IsDistinct, after_first, before_first, cons_option, enumerate_from}
pub use Rattle.std.specs.List.{filter, join_with_byte, list_all, list_any, position_or_len, prefix_len, slice_get}
pub use Rattle.std.specs.List.{starts_with}
pub use Rattle.std.specs.Option.{is_some, option_copied, option_or}
pub use Rattle.std.specs.Ordering.{is_eq, is_lt, nat_cmp, on, ordering_reverse}
pub use Rattle.std.specs.Prelude.{Contains, IfOk, IsTrue, OkIff, decimal, filter_map, nat_le, option_and_then, ◌↔◌}
pub use Rattle.std.specs.Str.{all_ascii_digits, byte, is_utf8, str_to_ascii_lowercase}
pub use Rattle.std.specs.Str.Parse.{ParsesUnsigned, digits_value}
pub use Rattle.std.specs.declared.cmp.Ordering.{Ordering}
pub use Rattle.std.specs.declared.cmp.Ordering.TheVariants.{Equal, Less}
pub use Rattle.bag_text.proofs.LineEnds.{spellings}
pub use Rattle.bag_text.proofs.ListOf.{contains_behind, contains_cases, contains_first, contains_nothing}
pub use Rattle.bag_text.proofs.ListOf.{each_from_members, joined, member_has, nothing_listed, one_listed, one_more}
pub use Rattle.bag_text.proofs.ListOf.{only_from_some, only_listed, same_members}
pub use Rattle.bag_text.proofs.Numbered.{length-numbered, line_is_numbered, numbered_is_line}
pub use Rattle.bag_text.specs.Alg.{alg_named, algs, hex_len, name}
pub use Rattle.bag_text.specs.Code.{number, stage}
pub use Rattle.bag_text.specs.Lines.{IsLine, line_feed, lines, lines_of_file, lines_of_text}
pub use Rattle.bag_text.specs.NumberedRest.{numbered_rest}
pub use Rattle.bag_text.specs.Order.{IsListOf}
pub use Rattle.bag_text.specs.Only.{IsOnly}
pub use Rattle.bag_text.specs.Path.{is_path, is_payload_path}
pub use Rattle.bag_text.specs.Spelling.{unescaped}
pub use Rattle.bag_text.specs.Spells.{Spells}
pub use Rattle.bag_text.specs.Text.{IsNoText, IsText, after_blanks, after_prefix, before_blank, begins_with_blank}
pub use Rattle.bag_text.specs.Text.{ends_with_blank, has_mark, is_blank, is_blank_line, same_label, text_cmp, text_of}
pub use Rattle.bag_text.specs.Text.{trim, without_mark, without_prefix, is_digits}
pub use Rattle.bag_text.specs.declared.alg.Alg.{Alg}
pub use Rattle.bag_text.specs.declared.code.Code.{Code}
pub use Rattle.bag_text.specs.declared.code.Code.TheVariants.{DeclarationLine, DeclarationLineCount, DeclarationNotUtf8}
pub use Rattle.bag_text.specs.declared.code.Code.TheVariants.{DigestLength, EncodingUnsupported, FetchEscape, FetchLine}
pub use Rattle.bag_text.specs.declared.code.Code.TheVariants.{FetchOutsidePayload, FetchUnsafePath, InfoLine}
pub use Rattle.bag_text.specs.declared.code.Code.TheVariants.{ManifestEscape, ManifestLine, ManifestOutsidePayload}
pub use Rattle.bag_text.specs.declared.code.Code.TheVariants.{ManifestUnsafePath, NamedAgain, NotUtf8}
pub use Rattle.bag_text.specs.declared.code.Code.TheVariants.{TagmanifestNamesPayload, TagmanifestNamesTagmanifest}
pub use Rattle.bag_text.specs.declared.code.Code.TheVariants.{VersionUnsupported}
pub use Rattle.bag_text.specs.declared.rules.Rules.{Rules}
pub use Rattle.bag_read.specs.Declaration.{DeclarationFault, IsDeclarationFault, IsUnreadLine, encoding_of, is_encoding}
pub use Rattle.bag_read.specs.Declaration.{is_supported_version, is_version, version_of, when}
pub use Rattle.bag_read.specs.DeclarationLine.{DeclaresNone, DeclaresOne, EncodingLinesReadAsTheirParts, IsEncodingLine}
pub use Rattle.bag_read.specs.DeclarationLine.{IsFaulty, IsVersionLine, LinesDeclareOrAreFaulty}
pub use Rattle.bag_read.specs.DeclarationLine.{VersionLinesReadAsTheirParts}
pub use Rattle.bag_read.specs.Fetch.{FetchFault, IsFetch, IsFetchFault, fetched_path, is_length}
pub use Rattle.bag_read.specs.ReadEntries.{entry, fetch_entry_in}
pub use Rattle.bag_read.specs.Fetch.{lacks_part, length_of, path_spelled, spelling_of, url_of, written_of}
pub use Rattle.bag_read.specs.Info.{DoesNotSplit, InfoFault, IsElement, IsInfoFault, IsOrphan, begins_element}
pub use Rattle.bag_read.specs.Info.{continuations, is_colon, is_continuation, is_label, leading_continuations, split}
pub use Rattle.bag_read.specs.Info.{value_of_parts}
pub use Rattle.bag_read.specs.InfoPlaces.{ContinuationsAreBelow, EachLineHasOnePlace, EachLineIsOfOneElement, Continues}
pub use Rattle.bag_read.specs.InfoPlaces.{IsLineAbove, IsFaultOf, IsFirstOf, IsPartOf, IsPassedOver}
pub use Rattle.bag_read.specs.InfoReader.{Numbered, after_line, all_elements, all_faults, element_at, elements}
pub use Rattle.bag_read.specs.InfoReader.{fault_at, fault_unless, faults, value_on, with_part, wrong}
pub use Rattle.bag_read.specs.LineFault.{AreFaults, entries_read, entry_of, fault_of, faults_read, line_fault}
pub use Rattle.bag_read.specs.LineFault.{line_fault_cmp, not_utf8}
pub use Rattle.bag_read.specs.LineParts.{AreDigits, BeginsUnblank, IsCutAtBlanks, IsFronted}
pub use Rattle.bag_read.specs.LineParts.{IsWithout, number_of}
pub use Rattle.bag_read.specs.Manifest.{IsEntry, IsManifestFault, ManifestFault, ReadsManifest, checked_digest}
pub use Rattle.bag_read.specs.Manifest.{digest_of, line_by_spelling, named, named_before, named_path, path_read, placed}
pub use Rattle.bag_read.specs.Manifest.{spelled_path, without_marks}
pub use Rattle.bag_read.specs.ManifestName.{is_alg_text, is_manifest_name, manifest_name, prefix}
pub use Rattle.bag_read.specs.Oxum.{is_dot, is_number, oxum_of}
pub use Rattle.bag_read.specs.Laws.{IsOxum, OxumsReadAsTheirParts, WritesNumber}
pub use Rattle.bag_read.specs.Reason.{Reason, decoded_or}
pub use Rattle.bag_read.specs.FetchReasons.{IsFirst}
pub use Rattle.bag_text.specs.FirstFault.{◌>>=◌}
pub use Rattle.bag_entries.specs.Repeats.{IsRepeatedLine}
pub use Rattle.bag_read.specs.ReadOnce.{IsReadOnce}
pub use Rattle.bag_read.specs.ReadOnce.{FindsRepeats}
pub use Rattle.bag_read.specs.declared.fetch.FetchEntry.{FetchEntry}
pub use Rattle.bag_read.specs.declared.info.Element.{Element}
pub use Rattle.bag_read.specs.declared.kind.Kind.{Kind}
pub use Rattle.bag_read.specs.declared.kind.Kind.TheVariants.{Payload, Tag}
pub use Rattle.bag_read.specs.declared.line_fault.LineFault.{LineFault}
pub use Rattle.bag_entries.specs.declared.entry.ManifestEntry.{ManifestEntry}
unfoldable pub use Rattle.bag_read.specs.Fetch.{fetch_line}
unfoldable pub use Rattle.bag_read.specs.Manifest.{manifest_line}
unfoldable pub use Rattle.std.specs.List.Sorted.{IsStrictlySortedBy}
