-- The names that this crate's proofs cite, passed on from one place. Declares nothing.
pub use Rattle.std.proofs.Common.{All, Bool, Contains, IsTrue, IsUtf8, List, None, Option, Some, [], ap, append-nil}
pub use Rattle.std.proofs.Common.{append_assoc, arith, bytes_eq, codes, cond, drop, false, fold, get_or, inl, inr}
pub use Rattle.std.proofs.Common.{is_some, length, length-append, lit<, map, nat_lt, not, refl, slice_get}
pub use Rattle.std.proofs.Common.{subst, suc, sum_by, sym, take, true, zero, ℕ, ⊎_elim}
pub use Rattle.std.proofs.Common.{◌&&◌, ◌*◌, ◌++◌, ◌+◌, ◌-◌, ◌<◌, ◌==◌, ◌^◌, ◌||◌, ◌∙◌, ◌∷◌, ◌≡◌, ◌≢◌, ◌≤◌, ◌⊎◌}
pub use Rattle.std.proofs.Math.Dec.{T}
pub use Rattle.std.proofs.lemmas.Bool.{and_from, and_parts, both_ways, cases_lt, eqb-true}
pub use Rattle.std.proofs.lemmas.Bool.{false_from_ne_true, false≢true, ltb-true, not-true}
pub use Rattle.std.proofs.lemmas.Bool.{not_from_true, or_cases, or_from, or_left, or_parts, or_right}
pub use Rattle.std.proofs.lemmas.List.{length-map, length-take, map-append, take-map, take_all}
pub use Rattle.std.proofs.lemmas.List.Elements.{All-append, All-cons, All-contains, All-from_recursion}
pub use Rattle.std.proofs.lemmas.List.Elements.{All-nil, All-push}
pub use Rattle.std.proofs.lemmas.List.Folds.{list_any-append}
pub use Rattle.std.proofs.lemmas.List.Sums.{fails_before_first, fold-append, fold_more}
pub use Rattle.std.proofs.lemmas.Option.{get_or_from_slice_get, slice_get-map, slice_get_read, slice_get_within}
pub use Rattle.std.proofs.lemmas.Result.{IfOk-weaker}
pub use Rattle.std.proofs.lemmas.Slice.Eq.{bytes_eq-Decides}
pub use Rattle.std.proofs.lemmas.Str.{IsUtf8-append, IsUtf8-from_is_utf8}
pub use Rattle.std.proofs.lemmas.Str.{is_utf8-from_IsUtf8}
pub use Rattle.std.specs.Cmp.Lexicographic.{nat_list_cmp_total, texts_ties}
pub use Rattle.std.specs.FinMap.{contains_key-keys, entries_sorted, find, get-empty, get-entries, get-from_entries}
pub use Rattle.std.specs.FinMap.{get-insert, is_sorted}
pub use Rattle.std.specs.FinMap.Entries.{below_all, find-where_key, is_some-find, is_sorted-where_key, same_entries}
pub use Rattle.std.specs.FinSet.{contains-insert, contains-remove, contains-retain, same_set}
pub use Rattle.std.specs.List.{AllByRecursion, after_first, list_any, position_or_len}
pub use Rattle.std.specs.Option.{option_map}
pub use Rattle.std.specs.Ordering.{eq_by_cmp, is_lt}
pub use Rattle.std.specs.Prelude.{option_and_then}
pub use Rattle.std.specs.declared.cmp.Ordering.TheVariants.{Equal, Greater, Less}
pub use Rattle.bag_facts.proofs.Mapped.{contains_mapped, mapped_contains, take_one_more}
pub use Rattle.bag_facts.proofs.Reading.{keeps_itself, keeps_on, later_refusal, listing_refusal}
pub use Rattle.bag_facts.proofs.Refusing.{came_from, path_some, refused_file, told_memory}
pub use Rattle.bag_facts.specs.Facts.{rules_in}
pub use Rattle.bag_tree.specs.Stop.{IsOutOfMemory, IsRefusalOf}
pub use Rattle.bag_facts.specs.Stops.{MayRefuseFacts}
pub use Rattle.bag_facts.specs.StopsAmong.{IsRefusedAmong, StopsAmong}
pub use Rattle.bag_facts.specs.Wanted.{OpensFirstOf, paths_of}
pub use Rattle.bag_faults.specs.declared.fault.Fault.{Fault}
pub use Rattle.bag_read.proofs.PickedOut.{any_from, from_any}
pub use Rattle.bag_read.proofs.TagPaths.{in_base, name_is_text, name_named, paths_differ}
pub use Rattle.bag_read.specs.Declaration.{IsDeclarationFault, declared_version}
pub use Rattle.bag_read.specs.Manifest.{IsEntry, IsManifestFault, named}
pub use Rattle.bag_read.specs.ManifestName.{manifest_name, tag_path}
pub use Rattle.bag_read.specs.declared.kind.Kind.{Kind}
pub use Rattle.bag_read.specs.declared.kind.Kind.TheVariants.{Payload, Tag}
pub use Rattle.bag_read.specs.declared.oxum.Oxum.{Oxum}
pub use Rattle.bag_read.specs.declared.tag_name.TagName.{TagName}
pub use Rattle.bag_read.specs.declared.tag_name.TagName.TheVariants.{Declaration, Fetch, Info, Manifest}
pub use Rattle.bag_stages.specs.FaultFields.{in_line}
pub use Rattle.bag_stages.specs.MetadataStage.{oxum_label}
pub use Rattle.bag_read.specs.Oxum.{oxum_text}
pub use Rattle.bag_stages.specs.Payload.{oxum, oxum_of_files, payload}
pub use Rattle.bag_stages.specs.TagFiles.{HasSupported, Names, lines_in, lines_or_none, manifest_of}
pub use Rattle.bag_stages.specs.ValidityStage.{Differs, IsEntryIn}
pub use Rattle.bag_report.specs.Valid.{HasNoFault, full}
pub use Rattle.bag_tags.proofs.DeclarationReadAgain.{declaration_again}
pub use Rattle.bag_tags.proofs.InfoReadAgain.{info_again}
pub use Rattle.bag_tags.proofs.ManifestReadAgain.{manifest_again}
pub use Rattle.bag_tags.specs.Distinct.{lent_texts}
pub use Rattle.bag_tags.specs.Element.{AreTexts, NewElement, info_text, is_bad_element, is_bad_label, is_bad_value}
pub use Rattle.bag_tags.specs.Entry.{NewEntry, manifest_text}
pub use Rattle.bag_tags.specs.Summed.{AreSummed, File, entries_of, manifest, manifests_of, summed_entry}
pub use Rattle.bag_tags.specs.Writable.{CanWrite, begins_with_mark, is_bad_digest, is_bad_entry}
pub use Rattle.bag_tags.specs.Writable.{is_bad_path, may_name, paths}
pub use Rattle.bag_tags.specs.ReadAgain.{DeclarationIsReadAgain, InfoIsReadAgain, ManifestIsReadAgain}
pub use Rattle.bag_text.proofs.ListOf.{contains_back, contains_behind, contains_cases, contains_either, contains_first}
pub use Rattle.bag_text.proofs.ListOf.{contains_front, contains_nothing, each_from_members, nothing_listed, one_list}
pub use Rattle.bag_text.specs.Alg.{name, rank_cmp}
pub use Rattle.bag_text.specs.Path.{components, first_component, is_base_name, is_path, is_payload_path, slash, under}
pub use Rattle.bag_text.specs.Text.{IsNoText, IsText, same_label, text_cmp}
pub use Rattle.bag_text.specs.declared.alg.Alg.{Alg}
pub use Rattle.bag_text.specs.declared.alg.Alg.TheVariants.{Md5}
pub use Rattle.bag_text.specs.declared.code.Code.{Code}
pub use Rattle.bag_text.specs.declared.code.Code.TheVariants.{AlgorithmUnsupported, FetchNotInManifest, InfoLine}
pub use Rattle.bag_text.specs.declared.code.Code.TheVariants.{NameClash, NoDeclaration, NoOxum, NoPayloadFolder}
pub use Rattle.bag_text.specs.declared.code.Code.TheVariants.{NoPayloadManifest, NotUtf8, OxumAgain, OxumDiffers}
pub use Rattle.bag_text.specs.declared.code.Code.TheVariants.{OxumMalformed, PayloadFileMissing, PayloadFileNotListed}
pub use Rattle.bag_text.specs.declared.code.Code.TheVariants.{PayloadManifestNotListed, PayloadSumDiffers}
pub use Rattle.bag_text.specs.declared.rules.Rules.TheVariants.{V10}
pub use Rattle.bag_tree.proofs.ListingLaw.{listings_are_of_the_bag}
pub use Rattle.bag_tree.proofs.Parents.{first-under, first_is_base_name, in_folder, is_slash, under_in_folder}
pub use Rattle.bag_tree.proofs.SameText.{exact_texts, one_text, text_itself}
pub use Rattle.bag_tree.proofs.Within.{goes_itself, goes_under, itself_within, not_within, stays, under_within}
pub use Rattle.bag_tree.proofs.Within.{within_cases}
pub use Rattle.bag_tree.specs.Asked.{Adds, AreSyncs, Asking, AsksFile, AsksFolder, AsksMove, AsksPart, ChangeNothing}
pub use Rattle.bag_tree.specs.Asked.{has_durable_folders, joined}
pub use Rattle.bag_tree.specs.Bag.{Bag, HasFile, IsBag, file, files_of, has_file, has_folder}
pub use Rattle.bag_tree.specs.Cut.{EachCut, LeavesOnly, MayLeave, is_durable, is_file_synced, is_synced}
pub use Rattle.bag_tree.specs.Digest.{digest}
pub use Rattle.bag_tree.specs.Listing.{IsListingOf, IsOrdered, entry_of_file}
pub use Rattle.bag_tree.specs.Moved.{is_within, moved, renamed}
pub use Rattle.bag_tree.specs.Steps.{Files, create, make_folder, move_in, rename_folder}
pub use Rattle.bag_tree.specs.Tree.{CameFromFile, Keeps, MayRefuseListing, TreeState, refusal_of}
pub use Rattle.bag_tree.specs.Tree.{NothingFailed}
pub use Rattle.bag_tree.specs.FileReads.{IsEntryOf, OpensAtMost}
pub use Rattle.bag_tree.specs.declared.answer.Answer.TheVariants.{Refused, Unlisted}
pub use Rattle.bag_tree.specs.declared.listing.FileEntry.{FileEntry}
pub use Rattle.bag_tree.specs.declared.listing.Listing.{Listing}
pub use Rattle.bag_tree.specs.declared.tree_fault.Stop.{Stop}
pub use Rattle.bag_tree.specs.declared.tree_fault.TreeFault.{TreeFault}
pub use Rattle.bag_make.specs.Contents.{AreInPathOrder, IsMoved, IsNew, IsNewText, MadeHasTheseFiles}
pub use Rattle.bag_make.specs.Contents.{MadeHasTheseFolders, ManifestsAscend}
pub use Rattle.bag_make.specs.Made.{data_folder, declaration_file, info_file, made}
pub use Rattle.bag_make.specs.Made.{named_tag_files, new_elements, new_payload, new_tag_files, payload_manifests}
pub use Rattle.bag_make.specs.Made.{tag_manifests}
pub use Rattle.bag_make.specs.Make.{CanAsk, HasKnownSize, HasMade, Leaves, MayRefuseMaking}
pub use Rattle.bag_make.specs.Plan.{in_order, is_in_the_way, new_file, steps, steps_for, tops}
pub use Rattle.bag_make.specs.Laws.{StepsMake, RefusesOneFile, CanMake, MadeIsValid}
pub use Rattle.bag_make.specs.ListedTops.{has_new, listed_tops}
pub use Rattle.bag_make.specs.PowerCut.{HasAllFiles, LastsForGood, OutlastsCuts}
pub use Rattle.bag_make.specs.Request.{is_refused}
pub use Rattle.bag_make.specs.Steps.{AllAsk, CanTake, CanTakeAll, HasLeft, HasTaken, RefusedAsks}
pub use Rattle.bag_make.specs.StepsTaken.{HasDone, IsStep}
pub use Rattle.bag_make.specs.Steps.{StepAsks, after_steps, change, new_folder}
pub use Rattle.bag_make.specs.Stops.{MayStopMaking}
pub use Rattle.bag_make.specs.Summing.{AreSummedFiles, IsSummedEntry, SumsFiles}
pub use Rattle.bag_make.specs.Texts.{info_of, size_of}
pub use Rattle.bag_make.specs.declared.fault.MakeFault.{MakeFault}
pub use Rattle.bag_make.specs.declared.step.Step.{Step}
pub use Rattle.bag_make.specs.declared.step.Step.TheVariants.{Create, MakeFolder, MoveIn, Rename}
pub use Rattle.bag_tags.specs.declared.summed.SummedFile.{SummedFile}
