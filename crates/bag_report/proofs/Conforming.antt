-- The names that this crate's proofs cite, passed on from one place. Declares nothing.
pub use Rattle.std.proofs.Common.{Bool, Contains, IsTrue, List, MatchOption, None, Option, Result, Some, [], ap}
pub use Rattle.std.proofs.Common.{append-nil, arith, cond, drop, eqb, false, filter, get_or, inl, inr, length}
pub use Rattle.std.proofs.Common.{length-drop, map, not, of_calls, refl, rules, subst, suc, sym, take, tests, true}
pub use Rattle.std.proofs.Common.{zero, ℕ, ◌&&◌, ◌++◌, ◌+◌, ◌-◌, ◌<◌, ◌||◌, ◌↔◌, ◌∙◌, ◌∷◌, ◌≡◌, ◌≢◌, ◌≤◌, ◌⊎◌}
pub use Rattle.std.proofs.lemmas.Bool.Decides.{same_from_decides}
pub use Rattle.std.proofs.lemmas.Fn.{always_returns_same}
pub use Rattle.std.proofs.lemmas.Grind.{common_steps, flat_map-append}
pub use Rattle.std.proofs.lemmas.Iterator.{YieldsList-from_map_by, YieldsList-from_slice}
pub use Rattle.std.proofs.lemmas.Iterator.Search.{any_from_yields_List, cmp_from_yields_List}
pub use Rattle.std.proofs.lemmas.List.{get_or-drop, map-id}
pub use Rattle.std.proofs.lemmas.List.Kept.{Contains-dedup, Contains-from_dedup, IsStrictlySortedBy-dedup}
pub use Rattle.std.proofs.lemmas.List.Kept.{IsStrictlySortedBy-filter}
pub use Rattle.std.proofs.lemmas.List.Sorted.{Contains-permutation, IsPermutation-sym, answers_always, ranks_by}
pub use Rattle.std.proofs.lemmas.List.Sorted.{searchable_from_sorted}
pub use Rattle.std.proofs.lemmas.Result.{IfOk-weaker}
pub use Rattle.std.proofs.lemmas.Slice.Eq.{bytes_eq-Decides}
pub use Rattle.std.specs.Borrow.{Bor}
pub use Rattle.std.specs.Cmp.Lexicographic.{nat_list_cmp_total, nat_list_eq_equiv}
pub use Rattle.std.specs.List.{AllWithin, dedup, enumerate_from, flat_map, list_any}
pub use Rattle.std.specs.List.Sorted.{IsBinarySearchResult, IsNonDecreasingBy, IsPartitionPoint, IsPartitionedBy}
pub use Rattle.std.specs.List.Sorted.{IsPermutation, IsSearchInRange, IsSorted, IsStableBy, IsStrictlySortedBy, ties}
pub use Rattle.std.specs.Option.{is_some, option_and_then}
pub use Rattle.std.specs.Ordering.{eq_by_cmp, is_lt, nat_cmp, ordering_index}
pub use Rattle.std.specs.Result.{is_ok}
pub use Rattle.std.specs.Str.{bytes_eq, str_to_ascii_lowercase}
pub use Rattle.bag_facts.proofs.ByPath.{found}
pub use Rattle.bag_facts.proofs.Mapped.{contains_mapped, kept, mapped_contains, passed, take_one_more, taken_cases}
pub use Rattle.bag_facts.specs.Facts.{rules_in}
pub use Rattle.bag_facts.specs.FactsOfBag.{IsFactsOf}
pub use Rattle.bag_faults.specs.FaultAt.{of_bag, of_path}
pub use Rattle.bag_facts.specs.TagReader.{AreFilesOfBag}
pub use Rattle.bag_faults.specs.declared.fault.Fault.{Fault}
pub use Rattle.bag_profile.specs.Pattern.{matches}
pub use Rattle.bag_profile.specs.Profile.{Profile, names}
pub use Rattle.bag_profile.specs.declared.label.LabelRule.{LabelRule}
pub use Rattle.bag_profile.specs.declared.rule.ListRule.{ListRule}
pub use Rattle.bag_profile.specs.declared.rule.ListRule.TheVariants.{AcceptBagItVersion, TagFilesAllowed}
pub use Rattle.bag_profile.specs.declared.rule.ListRule.TheVariants.{TagFilesRequired}
pub use Rattle.bag_profile.specs.declared.form.Form.{Form}
pub use Rattle.bag_profile.specs.declared.form.Form.TheVariants.{Archive, Folder}
pub use Rattle.bag_profile.specs.declared.terms.Serialization.{Serialization}
pub use Rattle.bag_profile.specs.declared.terms.Serialization.TheVariants.{Forbidden, Optional, Required}
pub use Rattle.bag_read.proofs.InfoElements.{elements_of}
pub use Rattle.bag_read.proofs.PickedOut.{any_from, from_any}
pub use Rattle.bag_read.specs.Declaration.{declared_version}
pub use Rattle.bag_read.specs.Info.{IsElement}
pub use Rattle.bag_read.specs.ManifestName.{is_alg_text, is_manifest_name, manifest_name, tag_path}
pub use Rattle.bag_read.specs.declared.info.Element.{Element}
pub use Rattle.bag_read.specs.declared.kind.Kind.{Kind}
pub use Rattle.bag_read.specs.declared.kind.Kind.TheVariants.{Payload, Tag}
pub use Rattle.bag_stages.proofs.ByPath.{take_whole}
pub use Rattle.bag_stages.proofs.FaultFields.{made_of}
pub use Rattle.bag_stages.proofs.HasLists.{Decided, both_decided, either, false_or_not, for_each, nothing, one_where}
pub use Rattle.bag_stages.proofs.HasLists.{only, same_set, true_or_not}
pub use Rattle.bag_stages.proofs.ManifestsList.{missing_or_not}
pub use Rattle.bag_stages.proofs.OxumFaults.{by_line}
pub use Rattle.bag_stages.specs.FaultFields.{At}
pub use Rattle.bag_stages.specs.HasList.{HasList}
pub use Rattle.bag_stages.specs.MetadataStage.{pair, HasElement, HasLater, bag_info_txt}
pub use Rattle.bag_stages.specs.TagFiles.{HasManifest, bagit_txt, lines_in, lines_or_none}
pub use Rattle.bag_text.proofs.ListOf.{contains_behind, contains_cases, contains_first, contains_front}
pub use Rattle.bag_text.proofs.ListOf.{contains_nothing, member_has}
pub use Rattle.bag_text.specs.Order.{IsListOf}
pub use Rattle.bag_text.specs.Path.{is_payload_path}
pub use Rattle.bag_text.specs.Text.{same_label, text_cmp}
pub use Rattle.bag_text.specs.declared.code.Code.{Code}
pub use Rattle.bag_text.specs.declared.code.Code.TheVariants.{FetchNotAllowed, LabelRepeated, LabelRequired}
pub use Rattle.bag_text.specs.declared.code.Code.TheVariants.{ManifestNotAllowed, ManifestRequired, ProfileIdentifier}
pub use Rattle.bag_text.specs.declared.code.Code.TheVariants.{SerializationForbidden, SerializationRequired}
pub use Rattle.bag_text.specs.declared.code.Code.TheVariants.{TagFileNotAllowed, TagFileRequired}
pub use Rattle.bag_text.specs.declared.code.Code.TheVariants.{TagmanifestNotAllowed, TagmanifestRequired}
pub use Rattle.bag_text.specs.declared.code.Code.TheVariants.{ValueNotAllowed, VersionNotAccepted}
pub use Rattle.bag_tree.specs.Bag.{Bag, HasFile, file, has_file}
pub use Rattle.bag_tree.specs.declared.listing.FileEntry.{FileEntry}
pub use Rattle.bag_report.specs.ConformanceFaults.{AreAll, IsOfElements, IsOfForm, IsOfKind, IsOfTagFiles}
pub use Rattle.bag_report.specs.ConformanceFaults.{IsOfWhole, other_code, required_code}
pub use Rattle.bag_report.specs.Laws.{ConformanceFaultsAreListed}
pub use Rattle.bag_report.specs.Laws.{ConformanceFaultsAreOfStageEight}
pub use Rattle.bag_report.specs.ConformanceStage.{HasFetchFile, HasOtherManifest, HasOtherTagFile, HasOtherValue}
pub use Rattle.bag_report.specs.ConformanceStage.{HasOtherVersion, IsOfProfile, IsToBeSerialized, LacksIdentifier}
pub use Rattle.bag_report.specs.ConformanceStage.{LacksLabel, LacksManifest, LacksTagFile, MayNotBeSerialized}
pub use Rattle.bag_report.specs.ConformanceStage.{RepeatsLabel}
pub use Rattle.bag_report.specs.ConformanceStage.{allowed_manifests, identifier_label}
pub use Rattle.bag_stages.specs.FetchStage.{fetch_txt}
pub use Rattle.bag_report.specs.ConformanceStage.{required_manifests}
pub use Rattle.bag_report.specs.ElementFaults.{allows, element_faults, has_other, has_value, identifier_faults}
pub use Rattle.bag_report.specs.ElementFaults.{in_info, labelled, later_fault, lent, repeated_faults}
pub use Rattle.bag_report.specs.ElementFaults.{required_faults, rule_faults, rules_faults, value_fault}
pub use Rattle.bag_report.specs.ElementFaults.{value_faults}
pub use Rattle.bag_report.specs.LabelOrder.{IsByLabel, folded_label, label_cmp}
pub use Rattle.bag_report.specs.NotAllowed.{IsOtherManifest, IsOtherTagFile, other_version, wrong_form}
pub use Rattle.bag_report.specs.ProfileRules.{Excludes, IsFreeTagFile, Lists, MatchesNone}
