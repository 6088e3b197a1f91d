-- The names that this crate's proofs cite, passed on from one place. Declares nothing.
pub use Rattle.std.proofs.Common.{Bool, Contains, IsTrue, List, None, Option, Some, [], ap, append-nil}
pub use Rattle.std.proofs.Common.{append_assoc, arith, codes, cond, drop, false, filter, inl, inr}
pub use Rattle.std.proofs.Common.{length, length-drop, map, min, nat_le, nat_lt, not, refl, slice_get}
pub use Rattle.std.proofs.Common.{string_bytes, subst, suc, sym, take, take-append-drop, true, true≢false}
pub use Rattle.std.proofs.Common.{zero, ℕ, ◌&&◌, ◌*◌, ◌++◌, ◌+◌, ◌-◌, ◌<◌, ◌∙◌, ◌∷◌, ◌≡◌, ◌≢◌, ◌≤◌, ◌⊎◌}
pub use Rattle.std.proofs.Math.Seq.{take-append_seam}
pub use Rattle.std.proofs.lemmas.Bool.{and_parts, and_right, cases_lt, eq-eqb, eqb-true}
pub use Rattle.std.proofs.lemmas.Bool.{not-true, or_parts}
pub use Rattle.std.proofs.lemmas.Bool.Decides.{nat_tests}
pub use Rattle.std.proofs.lemmas.Grind.{common_steps}
pub use Rattle.std.proofs.lemmas.List.{append_cancel_left, drop-drop, drop-map, drop-take, drop_all, drop_at, drop_more}
pub use Rattle.std.proofs.lemmas.List.{length-append, length-map, length-take-le, map-append}
pub use Rattle.std.proofs.lemmas.List.{same_from_push, take-map, take-take, take_all, take_at}
pub use Rattle.std.proofs.lemmas.List.Elements.{All-append, All-contains, All-filter, All-from_recursion}
pub use Rattle.std.proofs.lemmas.List.Elements.{All-nil, All-take, filter-append}
pub use Rattle.std.proofs.lemmas.List.Elements.{recursion_from_All}
pub use Rattle.std.proofs.lemmas.List.Filters.{length-filter_both}
pub use Rattle.std.proofs.lemmas.List.Kept.{IsStrictlySortedBy-filter}
pub use Rattle.std.proofs.lemmas.List.Sums.{sum_by-cons, sum_by-take-le, sum_by_more}
pub use Rattle.std.proofs.lemmas.Option.{slice_get-map}
pub use Rattle.std.proofs.lemmas.Result.{err_from_is_err_and}
pub use Rattle.std.specs.Cmp.{IsTotalOrder}
pub use Rattle.std.specs.Cmp.Lexicographic.{nat_list_cmp_total}
pub use Rattle.std.specs.Io.KnownBytes.{Appends}
pub use Rattle.std.specs.List.{All, AllByRecursion, concat, sum}
pub use Rattle.std.specs.List.Sorted.{IsStrictlySortedBy}
pub use Rattle.std.specs.Option.{option_copied, option_map}
pub use Rattle.std.specs.Ordering.{is_lt}
pub use Rattle.std.specs.declared.cmp.Ordering.{Ordering}
pub use Rattle.std.specs.declared.cmp.Ordering.TheVariants.{Equal, Greater, Less}
pub use Rattle.bag_faults.proofs.Ascending.{not_both, not_less_than_itself}
pub use Rattle.bag_facts.proofs.Mapped.{kept, mapped_contains}
pub use Rattle.bag_facts.proofs.Opens.{all_along, front_ascends, opens_none as reads_none}
pub use Rattle.bag_faults.proofs.Ordered.{fault_cmp_total}
pub use Rattle.bag_facts.proofs.Reading.{keeps_itself, keeps_on, later_refusal}
pub use Rattle.bag_facts.proofs.Refusing.{path_some}
pub use Rattle.bag_faults.specs.FaultLine.{field}
pub use Rattle.bag_faults.specs.LineOf.{IsLineOf}
pub use Rattle.bag_faults.specs.FaultOrder.{fault_cmp}
pub use Rattle.bag_tree.specs.Stop.{IsOutOfMemory}
pub use Rattle.bag_facts.specs.Stops.{MayRefuseFacts}
pub use Rattle.bag_facts.specs.TagReader.{MayStopReading, OpensAll}
pub use Rattle.bag_facts.specs.Wanted.{AreWanted, ForListing, IsWanted, OpensUpTo, OpensWanted}
pub use Rattle.bag_facts.specs.Wanted.{paths_of}
pub use Rattle.bag_faults.specs.declared.fault.Fault.{Fault}
pub use Rattle.bag_faults.specs.declared.options.Depth.TheVariants.{Full}
pub use Rattle.bag_faults.specs.declared.options.Options.{Options}
pub use Rattle.bag_profile.specs.Profile.{Profile}
pub use Rattle.bag_read.specs.declared.kind.Kind.TheVariants.{Payload}
pub use Rattle.bag_report.proofs.Filtered.{filtered_list}
pub use Rattle.bag_report.specs.Report.{Check, IsReport, above, first, is_above}
pub use Rattle.bag_stages.proofs.NamesByKind.{names_by_kind}
pub use Rattle.bag_stages.specs.LeftOut.{IsNamedBySome}
pub use Rattle.bag_stages.specs.SummedFiles.{IsSummed}
pub use Rattle.bag_stages.specs.TagFiles.{Names, named_in}
pub use Rattle.bag_text.proofs.ListOf.{contains_back, contains_behind, contains_cases, contains_either, contains_first}
pub use Rattle.bag_text.proofs.ListOf.{contains_front, contains_nothing, each_from_members, member_has}
pub use Rattle.bag_text.proofs.ListOf.{one_list, same_lists, same_members}
pub use Rattle.bag_text.specs.Code.{stage}
pub use Rattle.bag_text.specs.Order.{IsListOf}
pub use Rattle.bag_text.specs.Path.{is_path, is_payload_path}
pub use Rattle.bag_text.specs.Text.{text_cmp}
pub use Rattle.bag_tree.proofs.Calm.{memory_then, nothing_asked, nothing_then}
pub use Rattle.bag_tree.specs.Bag.{Bag, HasFile, IsBag, file, has_file}
pub use Rattle.bag_tree.specs.Out.{IsCut, OutState}
pub use Rattle.bag_tree.specs.Tree.{Keeps, TreeState, MayReportMemory, NothingFailed, IsRefusedAt}
pub use Rattle.bag_tree.specs.declared.listing.FileEntry.{FileEntry}
pub use Rattle.bag_tree.specs.declared.tree_fault.Stop.{Stop}
pub use Rattle.bag_tree.specs.declared.tree_fault.TreeFault.{TreeFault}
pub use Rattle.bag_tree.specs.declared.tree_fault.TreeFault.TheVariants.{Memory}
pub use Rattle.bag_walk.specs.Closing.{closing, count_of}
pub use Rattle.bag_walk.specs.Ending.{IsCutAt, MayEnd, ReachesEnd, Wrote, ended, ideal, limit_of}
pub use Rattle.bag_walk.specs.Ending.{lines_of_run, written, written_line}
pub use Rattle.bag_walk.specs.LastLine.{IsLastLine, IsLastOf, cursor_after}
pub use Rattle.bag_sources.specs.Openings.{IsBeforeFile, NoFaultBefore, IsToOpen, is_passed}
pub use Rattle.bag_facts.specs.StopsAmong.{IsRefusedAmong}
pub use Rattle.bag_sources.specs.SourceOpenings.{NoFaultBeforeStop, Opens, OpensAgain}
pub use Rattle.bag_sources.specs.SourceOpenings.{OpensNoFileEarly}
pub use Rattle.bag_walk.specs.Run.{AreFirst, EndsAt, IsAsked, IsRun, IsRunByReport, IsHonestOrReadOnce, check_of}
pub use Rattle.bag_walk.specs.RunOpenings.{LooksNoFurther, OpensInRun, OpensInTurn, OpensNamed}
pub use Rattle.bag_walk.specs.RunOpenings.{OpensNonePassed, OpensUpToSummed, StopsInTurn, written_before}
pub use Rattle.bag_walk.specs.Segment.{MayStopRun}
pub use Rattle.bag_walk.specs.SegmentEnds.{ClosesSegment, EndsSegment, IfUnread, IsRead, IsSegment}
pub use Rattle.bag_walk.specs.SegmentEnds.{StopsAt, WroteFirst, looked_past, still_to_come}
pub use Rattle.bag_walk.specs.SegmentOpenings.{AreCompared, EachBagHasComparedFiles, IsComparedFile, OpensFew}
pub use Rattle.bag_walk.specs.SegmentOpenings.{OpensInSegment, not_passed}
pub use Rattle.bag_walk.specs.SegmentChain.{Chain, Progress, RunsInSegments, RunsSegment, before_segments}
pub use Rattle.bag_walk.specs.Segments.{AreSegments, ForReport, ForReportFrom, ContinuesReport, IsStopped, MayLose}
pub use Rattle.bag_walk.specs.Segments.{RunsOfSegments, SegmentsFrom, SegmentsJoin, WroteSegments, cost, is_last}
pub use Rattle.bag_walk.specs.Segments.{outcome_at}
pub use Rattle.bag_sources.specs.Shown.{front_is, none_is}
pub use Rattle.bag_sources.specs.Source.{Sees, rest_of}
pub use Rattle.bag_sources.specs.Filling.{MayStopFilling, first_of}
pub use Rattle.bag_sources.specs.Start.{IsListedToOpen}
pub use Rattle.bag_sources.specs.Steps.{shown_by, to_give}
pub use Rattle.bag_walk.specs.Stops.{IfRunUnread, MayStop}
pub use Rattle.bag_tree.specs.Pieces.{Writes}
pub use Rattle.bag_walk.specs.Writer.{Closes, WritesReport}
pub use Rattle.bag_walk.specs.declared.outcome.Outcome.{Outcome}
pub use Rattle.bag_walk.specs.declared.outcome.Outcome.TheVariants.{Stopped, Unread, Unwritten}
pub use Rattle.bag_walk.specs.declared.outcome.Request.{Request}
pub use Rattle.bag_walk.specs.declared.segment.Segment.{Segment}
pub use Rattle.bag_walk.specs.declared.segment.SegmentEnd.{SegmentEnd}
pub use Rattle.bag_walk.specs.declared.segment.SegmentEnd.TheVariants.{AtEnd}
