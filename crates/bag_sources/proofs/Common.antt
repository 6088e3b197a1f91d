-- The names that this crate's proofs cite, passed on from one place. Declares nothing.
pub use Rattle.std.proofs.Common.{Bool, Contains, IsSome, IsTrue, List, None, Option, Some, [], ap, append-nil}
pub use Rattle.std.proofs.Common.{append_assoc, arith, cond, drop, false, filter, get_or, inl, inr, is_some}
pub use Rattle.std.proofs.Common.{length, map, nat_lt, not, refl, rules, slice_get}
pub use Rattle.std.proofs.Common.{subst, suc, sym, take, true, true≢false, unwrap_or}
pub use Rattle.std.proofs.Common.{vec_len, zero, ℕ, ◌&&◌, ◌*◌, ◌++◌, ◌+◌, ◌-◌, ◌<◌, ◌==◌, ◌∙◌, ◌∷◌, ◌≡◌, ◌≢◌, ◌≤◌, ◌⊎◌}
pub use Rattle.std.proofs.lemmas.Bool.{and_parts, cases_Bool, cases_lt, eq-eqb, eqb-true, false_from_ne_true}
pub use Rattle.std.proofs.lemmas.Bool.{lt-ltb, ltb-true, or_cases, or_left, or_right}
pub use Rattle.std.proofs.lemmas.Bool.Decides.{nat_tests}
pub use Rattle.std.proofs.lemmas.Grind.{common_steps}
pub use Rattle.std.proofs.lemmas.List.{append_cancel_left, drop-drop}
pub use Rattle.std.proofs.lemmas.List.{length-append, length-map, map-append}
pub use Rattle.std.proofs.lemmas.List.{nil_from_length, take-map, take_all}
pub use Rattle.std.proofs.lemmas.List.Elements.{All-contains, All-from_recursion, All-get_or}
pub use Rattle.std.proofs.lemmas.List.Elements.{Contains-push, Contains-push_cases, filter-append}
pub use Rattle.std.proofs.lemmas.List.Sums.{sum_by-cons}
pub use Rattle.std.proofs.lemmas.Option.{get_or_from_slice_get, slice_get_within}
pub use Rattle.std.proofs.lemmas.Map.Keys.{Less-from_sorted}
pub use Rattle.std.proofs.lemmas.Map.Views.{All-before_last}
pub use Rattle.std.proofs.lemmas.Result.{IfErr-weaker, IfOk-weaker, err_from_is_err_and}
pub use Rattle.std.proofs.lemmas.Result.{on_err_weaker, on_ok_weaker}
pub use Rattle.std.specs.Borrow.{Bor}
pub use Rattle.std.specs.Cmp.{IsTotalOrder, nat_cmp_is}
pub use Rattle.std.specs.Cmp.Lexicographic.{nat_list_cmp_total}
pub use Rattle.std.specs.List.{AllByRecursion}
pub use Rattle.std.specs.List.Sorted.{IsStrictlySortedBy}
pub use Rattle.std.specs.Option.{option_copied}
pub use Rattle.std.specs.Ordering.{is_lt, ordering_reverse}
pub use Rattle.std.specs.Prelude.{Err, IfErr, IfOk, MatchResult, Ok, OnErr, OnOk, Result, flat_map, if◌then◌else◌, ⊤}
pub use Rattle.std.specs.declared.cmp.Ordering.{Ordering}
pub use Rattle.std.specs.declared.cmp.Ordering.TheVariants.{Equal, Greater, Less}
pub use Rattle.bag_faults.proofs.Ascending.{not_both, not_less_than_itself}
pub use Rattle.bag_facts.proofs.Mapped.{kept, mapped_contains, take_one_more}
pub use Rattle.bag_facts.proofs.Opens.{front_ascends, opens_all_first}
pub use Rattle.bag_faults.proofs.Ordered.{fault_cmp_total}
pub use Rattle.bag_facts.proofs.Reading.{keeps_on, later_refusal}
pub use Rattle.bag_facts.proofs.Refusing.{came_from, has_entry, refused_file, told_memory}
pub use Rattle.bag_facts.specs.FactsOfBag.{IsFactsOf}
pub use Rattle.bag_faults.specs.FaultOrder.{fault_cmp}
pub use Rattle.bag_faults.specs.Options.{reaches}
pub use Rattle.bag_tree.specs.Stop.{IsOutOfMemory, IsRefusalOf}
pub use Rattle.bag_facts.specs.Wanted.{paths_of}
pub use Rattle.bag_facts.specs.declared.facts.Facts.{Facts}
pub use Rattle.bag_faults.specs.declared.fault.Fault.{Fault}
pub use Rattle.bag_faults.specs.declared.options.Depth.{Depth}
pub use Rattle.bag_faults.specs.declared.options.Depth.TheVariants.{Declaration, Full}
pub use Rattle.bag_faults.specs.declared.options.Options.{Options}
pub use Rattle.bag_profile.specs.Profile.{Profile}
pub use Rattle.bag_read.specs.declared.kind.Kind.TheVariants.{Payload, Tag}
pub use Rattle.bag_report.proofs.Asked.{asked_at_full, asked_is_reached}
pub use Rattle.bag_report.proofs.Asked.{seven_not_reached}
pub use Rattle.bag_report.proofs.Filtered.{filtered_list}
pub use Rattle.bag_report.proofs.Found.{is_of_completeness, is_of_validity, of_completeness, of_validity}
pub use Rattle.bag_report.specs.Report.{Check, IsReported, above, is_above}
pub use Rattle.bag_report.specs.Stages.{IsStageOf}
pub use Rattle.bag_stages.proofs.ByItem.{before_next}
pub use Rattle.bag_stages.proofs.InFile.{less_by_path}
pub use Rattle.bag_stages.proofs.NamesByKind.{names_by_kind}
pub use Rattle.bag_stages.proofs.ValidityFaults.{validity_of_stage_seven}
pub use Rattle.bag_stages.specs.Expected.{Expected}
pub use Rattle.bag_stages.specs.SumFaults.{differing, differing_code, faults_of_bytes}
pub use Rattle.bag_stages.specs.SumFaults.{sum_differs, IsFaultOfFile}
pub use Rattle.bag_stages.specs.SummedFiles.{IsNamed, IsSummed}
pub use Rattle.bag_stages.specs.TagFiles.{Names}
pub use Rattle.bag_stages.specs.ValidityStage.{IsOfValidity}
pub use Rattle.bag_text.proofs.ListOf.{contains_back, contains_behind, contains_cases, contains_either, contains_first}
pub use Rattle.bag_text.proofs.ListOf.{contains_front, contains_nothing, joined, member_has}
pub use Rattle.bag_text.proofs.ListOf.{nothing_listed, one_list, one_listed, same_members}
pub use Rattle.bag_text.specs.Code.{stage}
pub use Rattle.bag_text.specs.Order.{IsListOf}
pub use Rattle.bag_text.specs.Path.{is_payload_path}
pub use Rattle.bag_text.specs.Text.{text_cmp}
pub use Rattle.bag_text.specs.declared.code.Code.{Code}
pub use Rattle.bag_tree.proofs.Calm.{memory_then, nothing_asked, nothing_then}
pub use Rattle.bag_tree.specs.Bag.{Bag, HasFile, IsBag, file}
pub use Rattle.bag_tree.specs.Tree.{Keeps, TreeState, MayReportMemory, NothingFailed, IsRefusedAt}
pub use Rattle.bag_tree.specs.FileReads.{IsEntryOf, OpensAtMost}
pub use Rattle.bag_tree.specs.Whole.{MayRefuseWhole}
pub use Rattle.bag_tree.specs.declared.listing.FileEntry.{FileEntry}
pub use Rattle.bag_tree.specs.declared.tree_fault.Stop.{Stop}
pub use Rattle.bag_tree.specs.declared.tree_fault.TreeFault.{TreeFault}
pub use Rattle.bag_tree.specs.declared.tree_fault.TreeFault.TheVariants.{Changed}
pub use Rattle.bag_sources.specs.Completeness.{IsAbove, IsStageAbove}
pub use Rattle.bag_sources.specs.Files.{AreToSum, IsNamedAhead, IsToSum, HasItsFaults}
pub use Rattle.bag_sources.specs.Filled.{awaits_second, is_both}
pub use Rattle.bag_sources.specs.Merge.{fronts, least_of, union}
pub use Rattle.bag_sources.specs.Openings.{IsBeforeFile, NoFaultBefore, IsToOpen, is_passed}
pub use Rattle.bag_facts.specs.StopsAmong.{IsRefusedAmong}
pub use Rattle.bag_sources.specs.SourceOpenings.{NoFaultBeforeStop, Opens, OpensAgain}
pub use Rattle.bag_sources.specs.SourceOpenings.{OpensNoFileEarly, StillWait}
pub use Rattle.bag_sources.specs.Shown.{front_is, none_is}
pub use Rattle.bag_sources.specs.Source.{Sees, rest_of}
pub use Rattle.bag_sources.specs.Filling.{AllBelow, MayStopAnyway, MayStopFilling, Where, first_of}
pub use Rattle.bag_sources.specs.Start.{AreAheadBefore, IsListedToOpen, IsStarted}
pub use Rattle.bag_sources.specs.Steps.{Gives, IsAhead, IsNextOf, LendsNext, MayStopStep, IsReportAfter, left, shown}
pub use Rattle.bag_sources.specs.Steps.{shown_by, to_give, went}
pub use Rattle.bag_sources.specs.ToSum.{faults_at, faults_in, faults_of_files, paths_to_sum}
pub use Rattle.bag_sources.specs.Union.{first_of_union, rest_alone, rest_equal, rest_greater, rest_less, rest_other}
pub use Rattle.bag_sources.specs.Validity.{AreFilesOf, FindsFaults, GoesThrough, IsOfBag, StopsAtFile}
pub use Rattle.bag_sources.specs.declared.to_sum.ToSum.{ToSum}
