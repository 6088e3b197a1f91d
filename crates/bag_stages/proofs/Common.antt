-- The names that this crate's proofs cite, passed on from one place. Declares nothing.
pub use Rattle.std.proofs.Common.{Bool, Bor, Contains, Equal, Greater, IsTrue, Less, List, None, Option, Ordering, Some}
pub use Rattle.std.proofs.Common.{[], add-one, ap, append-nil, append_assoc, arith, bytes_eq, chars, codes, cond, drop}
pub use Rattle.std.proofs.Common.{drop-cons, encode_utf8_all, false, filter_map, get_or, if◌then◌else◌, inl, inr, is_lt}
pub use Rattle.std.proofs.Common.{is_some, length, map, min, not, of_calls, option_map, option_to_list, position, refl}
pub use Rattle.std.proofs.Common.{rules, string_bytes, subst, suc, sum_by, sym, take, take-append-drop, true, zero, ℕ}
pub use Rattle.std.proofs.Common.{◌*◌, ◌++◌, ◌+◌, ◌-◌, ◌<◌, ◌==◌, ◌^◌, ◌↔◌, ◌∙◌, ◌∷◌, ◌≡◌, ◌≢◌, ◌≤◌, ◌⊎◌}
pub use Rattle.std.proofs.Math.ListN.{get_or-map}
pub use Rattle.std.proofs.lemmas.Bool.Decides.{nat_tests}
pub use Rattle.std.proofs.lemmas.Grind.{common_steps}
pub use Rattle.std.proofs.lemmas.List.{append_cancel_left, get_or_default, length-map, length-take, map-append}
pub use Rattle.std.proofs.lemmas.List.{take-append-le, take_all, take_min, take_rest}
pub use Rattle.std.proofs.lemmas.List.Elements.{All-contains, All-map, filter-append, filter_map-append}
pub use Rattle.std.proofs.lemmas.List.Kept.{Any-dedup, Contains-from_dedup, IsStrictlySortedBy-dedup}
pub use Rattle.std.proofs.lemmas.List.Kept.{IsStrictlySortedBy-filter}
pub use Rattle.std.proofs.lemmas.List.Sorted.{Contains-permutation, IsPermutation-filter_both, IsPermutation-sym}
pub use Rattle.std.proofs.lemmas.Map.Keys.{IsDistinct-IsPermutation, IsDistinct-from_sorted, apart_from_distinct}
pub use Rattle.std.proofs.lemmas.Map.Keys.{sorted_from_all_adjacent}
pub use Rattle.std.proofs.lemmas.Map.Views.{Contains-from_any, list_any-from_Contains}
pub use Rattle.std.proofs.lemmas.Result.{IfOk-weaker, on_ok_weaker}
pub use Rattle.std.proofs.lemmas.Slice.Eq.{bytes_eq-Decides}
pub use Rattle.std.specs.Cmp.{eq_by_cmp_equiv, nat_cmp_total, tied_itself}
pub use Rattle.std.specs.Cmp.Lexicographic.{nat_list_cmp_total, on_texts, on_texts_equal, pointwise, same_text}
pub use Rattle.std.specs.Cmp.Lexicographic.{texts_ties}
pub use Rattle.std.specs.FinMap.{contains_key-keys, keys}
pub use Rattle.std.specs.List.{cons_option, dedup, enumerate_from, filter, list_any}
pub use Rattle.std.specs.List.Sorted.{IsPermutation, IsSorted, IsSortedBy, IsStrictlySortedBy}
pub use Rattle.std.specs.Ordering.{eq_by_cmp, is_eq, nat_cmp, on, ordering_reverse}
pub use Rattle.std.specs.Prelude.{All}
pub use Rattle.std.specs.Str.{IsAscii, is_utf8}
pub use Rattle.bag_faults.proofs.Ascending.{not_both, not_less_than_itself, self_ties}
pub use Rattle.bag_facts.proofs.ByPath.{items_ascend, less_case, paths_ascend, reversed, tie_case}
pub use Rattle.bag_facts.proofs.ListedFiles.{file_listed, listed_file}
pub use Rattle.bag_facts.proofs.Mapped.{contains_mapped, kept, mapped_contains, passed, take_one_more, taken_cases}
pub use Rattle.bag_faults.proofs.Ordered.{fault_cmp_same, fault_cmp_total}
pub use Rattle.bag_facts.specs.Facts.{IsByV10, rules_in}
pub use Rattle.bag_facts.specs.FactsOfBag.{IsByV097, IsFactsOf, IsSaidOfTagFile, IfBagRead}
pub use Rattle.bag_faults.specs.FaultAt.{of_bag, of_line, of_path}
pub use Rattle.bag_faults.specs.FaultOrder.{fault_cmp}
pub use Rattle.bag_facts.specs.TagFacts.{AreByPath, AreEntriesOf, IsDeclarationOf, IsFetchListOf, IsManifestNamed}
pub use Rattle.bag_facts.specs.TagFacts.{IsMetadataOf, IsReadOf, SaysOfTagFile, entry_paths, name_of, path_of}
pub use Rattle.bag_facts.specs.TagFacts.{text_test}
pub use Rattle.bag_facts.specs.TagReader.{AreFilesOfBag}
pub use Rattle.bag_facts.specs.Wanted.{paths_of}
pub use Rattle.bag_facts.specs.declared.facts.Facts.{Facts}
pub use Rattle.bag_faults.specs.declared.fault.Fault.{Fault}
pub use Rattle.bag_facts.specs.declared.tag_facts.Manifest.{Manifest}
pub use Rattle.bag_facts.specs.declared.tag_facts.TagFacts.{TagFacts}
pub use Rattle.bag_read.proofs.FaultOrder.{line_below, lower}
pub use Rattle.bag_read.proofs.FetchFaults.{entries_of_lines, entries_of_no_text, faults_of_no_text, faults_of_text}
pub use Rattle.bag_read.proofs.InfoElements.{elements_of}
pub use Rattle.bag_read.proofs.ManifestEntries.{entry_named, entry_of_path_once, named_has_entry}
pub use Rattle.bag_read.proofs.ManifestFaults.{some_entries, some_faults}
pub use Rattle.bag_read.proofs.ManifestLineParts.{lines_read}
pub use Rattle.bag_read.proofs.ManifestName.{IsManifestName, named_is, same_alg}
pub use Rattle.bag_read.proofs.PickedOut.{both_true}
pub use Rattle.bag_read.proofs.TagPaths.{name_named, paths_differ}
pub use Rattle.bag_read.specs.Declaration.{DeclarationFault, IsDeclarationFault}
pub use Rattle.bag_read.specs.Fetch.{FetchFault, IsFetch, IsFetchFault}
pub use Rattle.bag_read.specs.ReadEntries.{fetch_entry_in}
pub use Rattle.bag_read.specs.Info.{InfoFault, IsElement, IsInfoFault}
pub use Rattle.bag_read.specs.LineFault.{AreFaults, entries_read, faults_read, line_fault, line_fault_cmp, not_utf8}
pub use Rattle.bag_read.specs.Manifest.{IsEntry, IsManifestFault, ManifestFault}
pub use Rattle.bag_read.specs.ManifestName.{is_alg_text, is_manifest_name, manifest_name, prefix}
pub use Rattle.bag_read.specs.ManifestName.{tag_path}
pub use Rattle.bag_read.specs.declared.fetch.FetchEntry.{FetchEntry}
pub use Rattle.bag_read.specs.declared.info.Element.{Element}
pub use Rattle.bag_read.specs.declared.kind.Kind.{Kind}
pub use Rattle.bag_read.specs.declared.kind.Kind.TheVariants.{Payload, Tag}
pub use Rattle.bag_read.specs.declared.line_fault.LineFault.{LineFault}
pub use Rattle.bag_entries.specs.declared.entry.ManifestEntry.{ManifestEntry}
pub use Rattle.bag_read.specs.declared.oxum.Oxum.{Oxum}
pub use Rattle.bag_read.specs.declared.tag_name.TagName.{TagName}
pub use Rattle.bag_read.specs.declared.tag_name.TagName.TheVariants.{Fetch, Info}
pub use Rattle.bag_text.proofs.AlgSets.{each_is_listed, list_ascends}
pub use Rattle.bag_text.proofs.ListOf.{contains_back, contains_behind, contains_cases, contains_either, contains_first}
pub use Rattle.bag_text.proofs.ListOf.{contains_front, contains_nothing, each_from_members, joined, member_has}
pub use Rattle.bag_text.proofs.ListOf.{nothing_listed, one_listed, only_listed, same_lists, same_members}
pub use Rattle.bag_text.specs.Alg.{alg_named, algs, hex_len, rank, rank_cmp, rank_or_zero}
pub use Rattle.bag_text.specs.Code.{stage}
pub use Rattle.bag_text.specs.Lines.{lines_of_file}
pub use Rattle.bag_text.specs.Order.{IsListOf}
pub use Rattle.bag_text.specs.Only.{IsOnly}
pub use Rattle.bag_text.specs.Path.{is_path, is_payload_path}
pub use Rattle.bag_text.specs.Text.{IsNoText, text_cmp, without_prefix}
pub use Rattle.bag_text.specs.declared.alg.Alg.{Alg}
pub use Rattle.bag_text.specs.declared.alg.Alg.TheVariants.{Md5}
pub use Rattle.bag_text.specs.declared.code.Code.{Code}
pub use Rattle.bag_text.specs.declared.code.Code.TheVariants.{AlgorithmUnsupported, DeclarationNotUtf8}
pub use Rattle.bag_text.specs.declared.code.Code.TheVariants.{FetchNotInManifest, InfoLine, NameClash, NoDeclaration}
pub use Rattle.bag_text.specs.declared.code.Code.TheVariants.{NoOxum, NoPayloadFolder, NoPayloadManifest, NotUtf8}
pub use Rattle.bag_text.specs.declared.code.Code.TheVariants.{OxumAgain, OxumDiffers, OxumMalformed, PayloadFileMissing}
pub use Rattle.bag_text.specs.declared.code.Code.TheVariants.{PayloadFileNotListed, PayloadManifestNotListed}
pub use Rattle.bag_text.specs.declared.code.Code.TheVariants.{PayloadSumDiffers, TagFileMissing}
pub use Rattle.bag_text.specs.declared.rules.Rules.TheVariants.{V097, V10}
pub use Rattle.bag_tree.proofs.SameText.{exact_texts, one_text}
pub use Rattle.bag_tree.specs.Bag.{Bag, HasFile, LacksFile, file, files_of, has_file, has_folder}
pub use Rattle.bag_tree.specs.Digest.{digest}
pub use Rattle.bag_tree.specs.Listing.{IsListingOf, IsOrdered}
pub use Rattle.bag_tree.specs.declared.listing.FileEntry.{FileEntry}
pub use Rattle.hex.specs.Hex.{encode_lower, lower_digits}
pub use Rattle.bag_stages.specs.ClashFaults.{IsClashAmong, IsClashOf, first_of_form, first_with, name_clash}
pub use Rattle.bag_stages.specs.ClashStage.{IsClashFault, IsSoughtClash}
pub use Rattle.bag_stages.specs.Clashes.{AreAlike, IsLeast, IsLeastAlike, nfc_of}
pub use Rattle.bag_stages.specs.CompletenessFaults.{HasEachOnce, IsIncomplete, IsFileLeftOutByAll, IsFileLeftOutByOne}
pub use Rattle.bag_stages.specs.CompletenessFaults.{IsMissing, IsMissingFromSome, IsFileLeftOut, IsOfPath}
pub use Rattle.bag_stages.specs.CompletenessFaults.{IsOfPathAmong, IsLeftOutAmong, IsV10LeftOutByOne}
pub use Rattle.bag_stages.specs.CompletenessFaults.{IsV097LeftOutByAll, IsV10LeftOutBySome, IsPathLeftOutOf}
pub use Rattle.bag_stages.specs.CompletenessFaults.{IsFileNamedByNone, IsPathNamedByNone, IsWrong, IsWrongOfSome}
pub use Rattle.bag_stages.specs.CompletenessFaults.{missing_code, IsSoughtInStageSix}
pub use Rattle.bag_stages.specs.Laws.{FaultsAreListed, FaultsAreOfStage, NamesByKind}
pub use Rattle.bag_stages.specs.CompletenessStage.{IsOfCompleteness, IsPayloadFile, IsPayloadName}
pub use Rattle.bag_stages.specs.DeclarationStage.{InDeclaration, IsOfDeclaration}
pub use Rattle.bag_stages.specs.Expected.{Expected}
pub use Rattle.bag_stages.specs.FaultFields.{At, InFile, in_line}
pub use Rattle.bag_stages.specs.FaultPlaces.{in_file}
pub use Rattle.bag_stages.specs.FetchFaults.{AreByLine, AreFetched, IsNamedByNone, IsNamedByNoneAmong}
pub use Rattle.bag_stages.specs.FetchFaults.{IsFetchLeftOutByAll, IsFetchLeftOutByOne, IsFetchLeftOutBySome, IsNotNamed}
pub use Rattle.bag_stages.specs.FetchFaults.{IsNotNamedAmong, not_in_manifest}
pub use Rattle.bag_stages.specs.FetchStage.{HasFetch, IsOfFetch, fetch_txt}
pub use Rattle.bag_stages.specs.FileFaults.{AreTagsOf, HasTextless, IsFaultAmong, IsFileFault, IsUnsupported}
pub use Rattle.bag_stages.specs.FileFaults.{ListsPayloadManifest}
pub use Rattle.bag_stages.specs.Given.{AreNaming, IsGivenBy, IsSpelledBy, kind_of}
pub use Rattle.bag_stages.specs.HasList.{HasList}
pub use Rattle.bag_stages.specs.LeftOut.{IsLeftOut, IsLeftOutByAll, IsLeftOutByOne, IsNamedBySome}
pub use Rattle.bag_stages.specs.ManifestFaults.{IsAskedUnnamed, IsLineFault, IsOfManifest, IsUnlistedManifest}
pub use Rattle.bag_stages.specs.ManifestFaults.{IsUnnamedFault, unnamed}
pub use Rattle.bag_stages.specs.ManifestsStage.{InManifest, IsOfManifests}
pub use Rattle.bag_stages.specs.MetadataStage.{IsOfMetadata}
pub use Rattle.bag_stages.specs.MetadataStage.{oxum_label, pair, HasElement, HasFirst, HasLater}
pub use Rattle.bag_stages.specs.MetadataStage.{bag_info_txt}
pub use Rattle.bag_stages.specs.Names.{IsNameOf, texts_of}
pub use Rattle.bag_stages.specs.OxumFaults.{again, differs, first_faults, is_oxum, no_oxum, of_element, oxum_faults}
pub use Rattle.bag_stages.specs.OxumFaults.{oxums, same_oxum, reported_faults}
pub use Rattle.bag_read.specs.Oxum.{oxum_text}
pub use Rattle.bag_stages.specs.Payload.{oxum, oxum_of_files}
pub use Rattle.bag_stages.specs.PayloadNamed.{RestStartsAfter, IsExact, IsNamedExactly, IsPayloadNotFirst}
pub use Rattle.bag_stages.specs.PayloadNamed.{payload_paths}
pub use Rattle.bag_stages.specs.PayloadSize.{listed_oxum, payload_entries}
pub use Rattle.bag_stages.specs.SumFaults.{AreSumsBy, differing, differing_code, faults_of_bytes}
pub use Rattle.bag_stages.specs.SumFaults.{sum_differs, IsFaultOfFile}
pub use Rattle.bag_stages.specs.SummedFiles.{IsNamed, IsSummed}
pub use Rattle.bag_stages.specs.TagFiles.{HasManifest, HasNoText, HasSupported, Names, bagit_txt, lines_in}
pub use Rattle.bag_stages.specs.TagFiles.{lines_or_none, manifest_of, named_in}
pub use Rattle.bag_stages.specs.ValidityStage.{Differs, IsEntryIn, IsOfValidity, expected_and_found}
