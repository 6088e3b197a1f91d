-- A run over a part of a report.
use Rattle.std.specs.Prelude.{ℕ, zero, suc, ◌+◌, ◌<◌, ◌≤◌, ◌≡◌, ◌≢◌, ◌⊎◌, ◌++◌, ◌∷◌, true, List, []}
use Rattle.std.specs.Prelude.{Option, None, Some, slice_get, All, Contains, IsTrue, codes, decimal}
use Rattle.std.specs.Prelude.{Bool, drop, false, length}
use Rattle.std.specs.List.{concat}
use Rattle.std.specs.List.Sorted.{IsStrictlySortedBy}
use Rattle.std.specs.Io.KnownBytes.{Appends}
use Rattle.bag_text.specs.Bytes.{Path}
use Rattle.bag_text.specs.Code.{stage}
use Rattle.bag_text.specs.Order.{IsListOf}
use Rattle.bag_text.specs.Text.{text_cmp}
use Rattle.bag_tree.specs.Bag.{Bag, IsBag}
use Rattle.bag_tree.specs.Listing.{IsOrdered}
use Rattle.bag_tree.specs.Out.{IsCut, OutState}
use Rattle.bag_tree.specs.Tree.{Keeps, NothingFailed, TreeState}
use Rattle.bag_tree.specs.declared.listing.FileEntry.{FileEntry}
use Rattle.bag_faults.specs.FaultLine.{field}
use Rattle.bag_faults.specs.FaultOrder.{fault_cmp}
use Rattle.bag_faults.specs.Part.{Part}
use Rattle.bag_facts.specs.Wanted.{ForListing, IsWanted, OpensUpTo, OpensWanted}
use Rattle.bag_faults.specs.declared.fault.Fault.{Fault}
use Rattle.bag_faults.specs.declared.options.Depth.TheVariants.{Full}
use Rattle.bag_profile.specs.Profile.{Profile}
use Rattle.bag_report.specs.Report.{IsReport, above, first}
use Rattle.bag_walk.specs.Closing.{about_count, closing, unread_line}
use Rattle.bag_walk.specs.Ending.{ReachesEnd, ended, limit_of, written}
use Rattle.bag_sources.specs.Parts.{AreFilesIn, bounds_of, is_file_within, listed_of, part_of}
use Rattle.bag_walk.specs.Run.{ForReportAsked, IsAsked, IsRunByReport, IsHonestOrReadOnce, check_of}
use Rattle.bag_walk.specs.RunOpenings.{OpensAllBefore}
use Rattle.bag_sources.specs.Openings.{IsToOpen, NoFaultBefore, is_passed}
use Rattle.bag_walk.specs.SegmentEnds.{IfUnread, IsRead, IsSegment, still_to_come}
use Rattle.bag_sources.specs.StartPart.{AreToOpenWithin, IsWithin}
use Rattle.bag_walk.specs.Stops.{MayStop}
use Rattle.bag_walk.specs.declared.outcome.Outcome.{Outcome}
use Rattle.bag_walk.specs.declared.outcome.Request.{Request}
use Rattle.bag_sources.specs.declared.part.Listed.{Listed}
use Rattle.bag_walk.specs.declared.part_run.PartOutcome.{PartOutcome}
use Rattle.bag_walk.specs.declared.part_run.PartOutcome.TheVariants.{Done, Rest, Stopped, Unread, Unwritten}
use Rattle.bag_walk.specs.declared.segment.Segment.{Segment}
use Rattle.bag_walk.specs.declared.segment.SegmentEnd.{SegmentEnd}
use Rattle.bag_walk.specs.declared.segment.SegmentEnd.TheVariants as end_of

-- what the closing line of a part says of what was asked for: that names that clash are looked for
abbrev pub clashes_words : Bool → List ℕ
clashes_words true = codes ", clashes"
clashes_words false = []

-- and the SHA-256 of the profile that the bag is checked against, if there is one
abbrev pub profile_words : Option (List ℕ) → List ℕ
profile_words None = []
profile_words (Some sum) = codes ", profile: " ++ sum

-- how a part ended, of what files it was cut, what was asked for, and the number of faults that were
-- written
abbrev pub cut_line : List ℕ → Listed → Bool → Option (List ℕ) → ℕ → List ℕ
cut_line how listed clashes sum n =
    how ++ (decimal listed.files ++ (codes ", bytes: "
    ++ (decimal listed.bytes ++ (clashes_words clashes ++ (profile_words sum
    ++ (codes ", faults: " ++ (decimal n ++ codes "\n")))))))

-- a line that says that the end of a part was reached; the parts are counted from 1
abbrev pub end_line : List ℕ → List ℕ → Part → Listed → Bool → Option (List ℕ) → ℕ → List ℕ
end_line how name part listed clashes sum n =
    field name ++ (codes " part " ++ (decimal (part.number + 1) ++ (codes " of "
    ++ (decimal part.of ++ cut_line how listed clashes sum n))))

-- the same of a part that was checked from its first fault on, and of one from a cursor on
abbrev pub done_line : List ℕ → Part → Listed → Bool → Option (List ℕ) → ℕ → List ℕ
done_line name part listed clashes sum n =
    end_line (codes " done, files: ") name part listed clashes sum n

abbrev pub rest_line : List ℕ → Part → Listed → Bool → Option (List ℕ) → ℕ → List ℕ
rest_line name part listed clashes sum n =
    end_line (codes " rest done, files: ") name part listed clashes sum n

-- the closing line of a run over a part, with its end, or nothing where there is none
abbrev pub part_closing : Request → Option (List ℕ) → Part → PartOutcome → List ℕ
part_closing request sum part (Done n listed) =
    done_line request.name part listed request.options.clashes sum n
part_closing request sum part (Rest n listed) =
    rest_line request.name part listed request.options.clashes sum n
part_closing request sum part (Stopped n) = about_count request.name (codes " stopped, faults: ") n
part_closing request sum part (Unread n stop) = unread_line request.name stop n
part_closing request sum part (Unwritten n) = []

-- how a run over a part ends that reached its end: a part is done by a run without a cursor alone
abbrev pub part_ended : Option Fault → ℕ → Listed → PartOutcome
part_ended None n listed = Done n listed
part_ended (Some fault) n listed = Rest n listed

-- how a run over a part ends whose lines ended so, if the output takes its closing line
abbrev pub part_outcome : Option Fault → Listed → ℕ → SegmentEnd → PartOutcome
part_outcome after listed n end_of.Full = Stopped n
part_outcome after listed n end_of.AtEnd = part_ended after n listed
part_outcome after listed n (end_of.Unread stop) = Unread n stop
part_outcome after listed n end_of.Unwritten = Unwritten n

-- how many fault lines were written
abbrev pub part_count : PartOutcome → ℕ
part_count (Done n listed) = n
part_count (Rest n listed) = n
part_count (Stopped n) = n
part_count (Unread n stop) = n
part_count (Unwritten n) = n

-- the exit status of a run over a part
abbrev pub part_status : PartOutcome → ℕ
part_status (Done n listed) = 1
part_status (Rest n listed) = 1
part_status (Stopped n) = 1
part_status (Unread n stop) = 3
part_status (Unwritten n) = 3

-- The closing line of an ending was written, or the output refused it.
abbrev pub PutsPartClosing : Request → Option (List ℕ) → Part → PartOutcome → OutState → OutState
    → PartOutcome → Type 0
PutsPartClosing request sum part ending before after outcome =
    ((outcome ≡ ending) × Appends before.taken after.taken (part_closing request sum part ending))
    ⊎ ((outcome ≡ Unwritten (part_count ending)) × (after.has_refused ≡ true)
    × IsCut before.taken after.taken (part_closing request sum part ending))

-- so it is for the faults of the part that the request asks for, of the report of an honest tree's
-- bag
abbrev pub ForPart : TreeState → Option Profile → Request → Part → (List Fault → Type 0) → Type 0
ForPart old profile request part Holds =
    ForReportAsked old profile request (λ report.
    (files : List FileEntry) → AreFilesIn old.bag files
    → Holds (part_of files part (above request.after report)))

-- What a part writes is of one bag, which is an honest tree's: where the tree is honest, or below
-- depth Full, where each file is read once at most, it is the lines of the faults of the part that
-- the request asks for.
pub record WritesPart (old : TreeState) (profile : Option Profile) (request : Request) (part : Part)
    (before lines : OutState) (segment : Segment) : Type 0 where
  pub seen : Bag
  pub is_bag : IsBag seen
  pub honest : IsTrue old.honest → seen ≡ old.bag
  pub faults : IsHonestOrReadOnce old request
      → (report : List Fault) → IsReport (check_of seen profile request) report
      → (files : List FileEntry) → AreFilesIn seen files
      → IsSegment (part_of files part (above request.after report)) (limit_of request)
      before lines segment

-- Tag files were read, each once at most and in path order, and then at depth Full files were
-- summed that the cursor hasn't passed, each once at most and in path order: where the tree is
-- honest, files of the part that are there and that manifests name. Each fault of the part that
-- stands before one of them had its line written.
pub record OpensInPart (profile : Option Profile) (request : Request) (part : Part)
    (segment : Segment) (old new : TreeState) : Type 0 where
  pub read : List Path
  pub summed : List Path
  pub opened : new.openings ≡ old.openings ++ (read ++ summed)
  pub read_in_order : IsStrictlySortedBy text_cmp read
  pub wanted : All (IsWanted request.options) read
  pub summed_in_order : IsStrictlySortedBy text_cmp summed
  pub only_at_full : request.options.depth ≢ Full → summed ≡ []
  pub none_passed : All (λ path. is_passed request.after path ≡ false) summed
  pub of_part : IsTrue old.honest → (files : List FileEntry) → AreFilesIn old.bag files
      → (path : Path) → Contains summed path
      → IsToOpen (check_of old.bag profile request) request.after path
      × (is_file_within (bounds_of files part) path ≡ true)
  pub in_turn : ForPart old profile request part (λ faults.
      NoFaultBefore (still_to_come segment faults) summed)

-- The run stopped at a file whose digests were to be compared, when n faults had been written: it
-- was refused when all the tag files that are wanted had been read, and then of those files of the
-- part the ones before it had been opened, each once and in path order, and no other; and each
-- fault of the part that stands before it had been written.
abbrev pub OpensPartUpTo : Option Profile → Request → Part → ℕ → Path → TreeState → TreeState
    → Type 0
OpensPartUpTo profile request part n path old new =
    (todo : List Path) × OpensAllBefore request.options todo path old new
    × (IsTrue old.honest → (files : List FileEntry) → AreFilesIn old.bag files
    → AreToOpenWithin (check_of old.bag profile request) request.after (bounds_of files part) todo)
    × ForPart old profile request part (λ faults. NoFaultBefore (drop n faults) (path ∷ []))

-- A run over a part that stops at a file has opened those before it: the tag files that are read,
-- or also those whose digests are compared.
abbrev pub StopsInPartInTurn : Option Profile → Request → Part → Segment → TreeState → TreeState
    → Type 0
StopsInPartInTurn profile request part segment old new =
    IfUnread segment.end (λ stop. stop.path ≢ []
    → ForListing old (λ files. OpensUpTo request.options files stop.path old new)
    ⊎ OpensPartUpTo profile request part segment.written stop.path old new)

-- where the faults of stages 1 to 6 that the request asks for of a part reach its limit, tag files
-- alone were read
abbrev pub LooksNoFurtherInPart : Option Profile → Request → Part → TreeState → TreeState → Type 0
LooksNoFurtherInPart profile request part old new =
    IsTrue old.honest → (files : List FileEntry) → AreFilesIn old.bag files
    → (early : List Fault)
    → IsListOf fault_cmp (λ f. IsWithin (bounds_of files part)
    (IsAsked old.bag profile request) f × (stage f.code < 7)) early
    → limit_of request ≤ length early → OpensWanted request.options old new

-- A run over a part. It changes nothing, opens no payload file but those of its part and only in
-- their turn, and stops at its device only where that failed. What it writes is the lines of a
-- segment and a closing line, and over an honest tree they are the lines of the faults of the part
-- that the request asks for; below depth Full they are those of some bag over any tree.
pub record IsRunOfPart (old new : TreeState) (profile : Option Profile)
    (sum : Option (List ℕ)) (part : Part) (request : Request) (before after : OutState)
    (outcome : PartOutcome) : Type 0 where
  pub keeps : Keeps old new
  pub untouched : request.limit ≡ Some 0 → new ≡ old
  pub segment : Segment
  pub opens : OpensInPart profile request part segment old new
  -- where it stops at a file, it has opened those before that one; and where its faults of stages 1
  -- to 6 reach the limit, tag files alone
  pub stopped : StopsInPartInTurn profile request part segment old new
  pub unlooked : LooksNoFurtherInPart profile request part old new
  pub no_failure : IsRead segment.end → NothingFailed old new
  -- over an honest tree only files and folders stand there, unless the limit is 0
  pub plain : IsRead segment.end → 0 < limit_of request → IsTrue old.honest → IsTrue old.plain
  pub stop : IfUnread segment.end (MayStop request.options old new)
  -- what the output took before the closing line
  pub lines : OutState
  pub wrote : (faults : List Fault)
      × IsSegment faults (limit_of request) before lines segment
  pub faults : ForPart old profile request part (λ faults.
      IsSegment faults (limit_of request) before lines segment)
  pub of_one_bag : WritesPart old profile request part before lines segment
  -- where the end was reached, of what files the part was cut
  pub listed : Listed
  pub counts : segment.end ≡ end_of.AtEnd → ForListing old (λ files. listed ≡ listed_of files)
  pub closes : PutsPartClosing request sum part
      (part_outcome request.after listed segment.written segment.end) lines after outcome

-- The law of a part that is done without a cursor: over an honest tree its output is the line of
-- each fault that its report has in that part, and the closing line, which counts them.
abbrev pub DonePartIsWritten : Type 0
DonePartIsWritten =
    (old new : TreeState) (profile : Option Profile) (sum : Option (List ℕ)) (part : Part)
    (request : Request) (before after : OutState) (n : ℕ) (listed : Listed)
    → IsRunOfPart old new profile sum part request before after (Done n listed)
    → request.after ≡ None
    → ForReportAsked old profile request (λ report.
    (files : List FileEntry) → AreFilesIn old.bag files
    → (n ≡ length (part_of files part report)) × (listed ≡ listed_of files)
    × Appends before.taken after.taken (concat (written (part_of files part report))
    ++ done_line request.name part (listed_of files) request.options.clashes sum n))

-- The law of what parts tell of their files: where the bags of two honest trees have one list of
-- files with their sizes, parts of them that are done tell the same, whatever else they were asked
-- for. So parts that tell different numbers are of different lists.
abbrev pub OneListIsTold : Type 0
OneListIsTold =
    (old new : TreeState) (profile : Option Profile) (sum : Option (List ℕ)) (part : Part)
    (request : Request) (before after : OutState) (n : ℕ) (listed : Listed)
    (old' new' : TreeState) (profile' : Option Profile) (sum' : Option (List ℕ)) (part' : Part)
    (request' : Request) (before' after' : OutState) (n' : ℕ) (listed' : Listed)
    (files : List FileEntry)
    → IsRunOfPart old new profile sum part request before after (Done n listed)
    → IsRunOfPart old' new' profile' sum' part' request' before' after' (Done n' listed')
    → IsTrue old.honest → IsTrue old'.honest
    → AreFilesIn old.bag files → AreFilesIn old'.bag files → listed ≡ listed'

-- The law of going on in a part: its faults are those up to one of them, and those that a run over
-- the part writes after that one.
abbrev pub CursorCutsPart : Type 0
CursorCutsPart =
    (files : List FileEntry) (part : Part) (report : List Fault) (n : ℕ) (f : Fault)
    → IsStrictlySortedBy fault_cmp report
    → slice_get (part_of files part report) n ≡ Some f
    → first (n + 1) (part_of files part report) ++ part_of files part (above (Some f) report)
    ≡ part_of files part report

-- the lines of the first parts of a report, one after the other
abbrev pub first_lines : List FileEntry → ℕ → List Fault → ℕ → List ℕ
first_lines files parts report zero = []
first_lines files parts report (suc k) =
    first_lines files parts report k
    ++ concat (written (part_of files (record { number = k; of = parts }) report))

-- and how many they are
abbrev pub first_counts : List FileEntry → ℕ → List Fault → ℕ → ℕ
first_counts files parts report zero = 0
first_counts files parts report (suc k) =
    first_counts files parts report k
    + length (part_of files (record { number = k; of = parts }) report)

-- The law: what all parts write before their closing lines, one after the other, are the lines of
-- the report, and they are as many as their closing lines count together.
abbrev pub PartsWriteReport : Type 0
PartsWriteReport =
    (files : List FileEntry) (parts : ℕ) (report : List Fault) → IsOrdered files → 0 < parts
    → IsStrictlySortedBy fault_cmp report
    → (first_lines files parts report parts ≡ concat (written report))
    × (first_counts files parts report parts ≡ length report)

-- The law of all parts: over an honest tree one run that comes to the end of its report writes what
-- its parts write before their closing lines, one after the other, and then the closing line for as
-- many faults as they count together.
abbrev pub RunIsItsParts : Type 0
RunIsItsParts =
    (old new : TreeState) (profile : Option Profile) (request : Request)
    (before after : OutState) (outcome : Outcome) (parts : ℕ)
    → IsRunByReport old new profile request before after outcome
    → request.after ≡ None → ReachesEnd outcome → 0 < parts
    → ForReportAsked old profile request (λ report.
    (files : List FileEntry) → AreFilesIn old.bag files
    → (outcome ≡ ended None (first_counts files parts report parts))
    × Appends before.taken after.taken
    (first_lines files parts report parts ++ closing request outcome))
