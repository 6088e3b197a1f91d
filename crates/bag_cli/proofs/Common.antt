-- The names that this crate's proofs cite, passed on from one place. Declares nothing.
pub use Rattle.std.proofs.Common.{Bool, IsTrue, List, None, Option, Some, [], ap, append-nil}
pub use Rattle.std.proofs.Common.{append_assoc, arith, decimal, drop, get_or, inl, inr, length, refl}
pub use Rattle.std.proofs.Common.{subst, suc, sym, take, zero, ℕ, ◌++◌, ◌<◌, ◌∙◌, ◌∷◌, ◌≡◌, ◌≢◌, ◌≤◌}
pub use Rattle.std.proofs.Common.{◌⊎◌}
pub use Rattle.std.proofs.lemmas.Result.{err_from_is_err_and}
pub use Rattle.std.specs.Io.KnownBytes.{Appends}
pub use Rattle.std.specs.Option.{option_copied}
pub use Rattle.std.specs.Result.{result_ok}
pub use Rattle.std.specs.Prelude.{MatchOption, MatchResult, codes, unwrap_or}
pub use Rattle.std.specs.declared.result.Result.{Result}
pub use Rattle.std.specs.declared.result.Result.TheVariants.{Err, Ok}
pub use Rattle.bag_arguments.specs.declared.plan.Plan.{Plan}
pub use Rattle.bag_disk.specs.Disk.{DiskState}
pub use Rattle.bag_faults.specs.FaultLine.{field}
pub use Rattle.bag_reports.specs.Reports.{ReportsState}
pub use Rattle.bag_reports.specs.declared.refusal.Refusal.{Refusal}
pub use Rattle.bag_make.specs.declared.fault.MakeFault.{MakeFault}
pub use Rattle.bag_store.specs.FileTree.{tree_state}
pub use Rattle.bag_tags.specs.Element.{NewElement}
pub use Rattle.bag_tree.specs.Out.{IsCut, OutState}
pub use Rattle.bag_tree.specs.Tree.{TreeState, cause_word}
pub use Rattle.bag_tree.specs.declared.out.Refused.{Refused}
pub use Rattle.bag_tree.proofs.Writing.{IsCut-append, append-IsCut, cut_third, writes_after, writes_third}
pub use Rattle.bag_walk.specs.ExitStatus.{status}
pub use Rattle.bag_tree.specs.Pieces.{Writes}
pub use Rattle.bag_walk.specs.declared.outcome.Outcome.{Outcome}
pub use Rattle.bag_walk.specs.declared.outcome.Outcome.TheVariants.{Unwritten}
pub use Rattle.bag_walk.specs.declared.outcome.Request.{Request}
pub use Rattle.bag_cli.specs.Checked.{HaveNoFailure, AreChecksOf, HasRunOut, IsCheckOf, IsLastCheck}
pub use Rattle.bag_cli.specs.Checking.{IsCheckOfSample}
pub use Rattle.bag_cli.specs.Checked.{IsVisitToCheck, IsWholeCheck, profile_of, request_of}
pub use Rattle.bag_program.specs.Visits.{visit_of}
pub use Rattle.bag_program.specs.FolderDeeds.{IsWholeDeed}
pub use Rattle.bag_program.specs.Folders.{disks_of, visits_of}
pub use Rattle.bag_cli.specs.Honest.{HonestFoldersAreReported, IsReportedMade, IsReportedNotMade}
pub use Rattle.bag_cli.specs.Joined.{AreJoined, IsJoin, join_status}
pub use Rattle.bag_make.specs.WholeMaking.{IsMake}
pub use Rattle.bag_cli.specs.Making.{ReportsMaking}
pub use Rattle.bag_cli.specs.Makings.{AreMakingsOf, IsMakingBy}
pub use Rattle.bag_cli.specs.CheckedAs.{AreCheckedAs, AreCheckedInForm, IsWholeAs, in_form}
pub use Rattle.bag_cli.specs.Performed.{AreChecked, AreTarsChecked, Checks, IsChecked, IsDoneBy}
pub use Rattle.bag_cli.specs.Performed.{IsPerformed}
pub use Rattle.bag_cli.specs.Sample.{sample_state}
pub use Rattle.bag_program.specs.Saying.{Says}
pub use Rattle.bag_cli.specs.Status.{whole_status}
pub use Rattle.bag_cli.specs.declared.check_outcome.CheckOutcome.{CheckOutcome}
pub use Rattle.bag_cli.specs.Reported.{ReportsMade, GivesReport, reported_lines}
pub use Rattle.bag_cli.specs.TarChecked.{AreTarChecksOf, IsLastTarCheck, IsTreeOf, IsWholeTarCheck}
pub use Rattle.bag_archive.specs.Archive.{ArchiveState}
pub use Rattle.bag_cli.specs.UncheckedKeys.{unchecked_line, unchecked_lines}
pub use Rattle.bag_program.specs.Visits.{Asked, Closed, Entered, Event, Left, NotGiven, Opened, Read}
pub use Rattle.bag_cli.specs.declared.profile_file.SummedProfile.{SummedProfile}
