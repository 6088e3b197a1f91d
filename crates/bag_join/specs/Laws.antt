-- Laws of joined reports.
use Rattle.std.specs.Prelude.{ℕ, zero, suc, ◌<◌, ◌≤◌, ◌^◌, ◌≡◌, ◌++◌, false, List, [], ◌∷◌, None, Some}
use Rattle.std.specs.Prelude.{Contains, IsTrue, IsUtf8, Option, length, slice_index_or}
use Rattle.std.specs.List.{range_with_len}
use Rattle.std.specs.List.Sorted.{IsPermutation}
use Rattle.std.specs.List.Sorted.{IsStrictlySortedBy}
use Rattle.bag_tree.specs.Bag.{Bag}
use Rattle.bag_tree.specs.Listing.{IsOrdered}
use Rattle.bag_tree.specs.Out.{OutState}
use Rattle.bag_tree.specs.Tree.{TreeState}
use Rattle.bag_tree.specs.declared.listing.FileEntry.{FileEntry}
use Rattle.bag_faults.specs.FaultLine.{field}
use Rattle.bag_faults.specs.FaultOrder.{fault_cmp}
use Rattle.bag_faults.specs.LineOf.{IsFault}
use Rattle.bag_faults.specs.Part.{Part}
use Rattle.bag_faults.specs.declared.fault.Fault.{Fault}
use Rattle.bag_faults.specs.declared.options.Depth.TheVariants.{Full}
use Rattle.bag_profile.specs.Profile.{Profile}
use Rattle.bag_report.specs.Report.{IsReport}
use Rattle.bag_reports.specs.DoneLine.{IsProfileSum}
use Rattle.bag_reports.specs.Head.{AreKeys, IsKey, head_of}
use Rattle.bag_reports.specs.Reports.{ReportsState}
use Rattle.bag_join.specs.Findings.{AreWhole, Findings, IsReportOf}
use Rattle.bag_join.specs.Join.{all_faults, full_closing}
use Rattle.bag_walk.specs.Closing.{closing}
use Rattle.bag_walk.specs.Ending.{ReachesEnd, ended}
use Rattle.bag_walk.specs.PartRuns.{IsRunOfPart}
use Rattle.bag_sources.specs.Parts.{AreFilesIn, listed_of, part_of}
use Rattle.bag_walk.specs.Run.{IsRunByReport, check_of}
use Rattle.bag_walk.specs.declared.outcome.Outcome.{Outcome}
use Rattle.bag_walk.specs.declared.outcome.Request.{Request}
use Rattle.bag_sources.specs.declared.part.Listed.{Listed}
use Rattle.bag_walk.specs.declared.part_run.PartOutcome.TheVariants.{Done}

-- the faults of the first parts of a report, of so many
abbrev pub faults_of_parts : List FileEntry → ℕ → List Fault → ℕ → List (List Fault)
faults_of_parts files parts report zero = []
faults_of_parts files parts report (suc k) =
    faults_of_parts files parts report k
    ++ part_of files (record { number = k; of = parts }) report ∷ []

-- The law: where the parts are those of one report, what is joined has its faults.
abbrev pub PartsOfReportJoin : Type 0
PartsOfReportJoin =
    (files : List FileEntry) (parts : ℕ) (report : List Fault) → IsOrdered files → 0 < parts
    → IsStrictlySortedBy fault_cmp report
    → all_faults (faults_of_parts files parts report parts) ≡ report

-- The law: it is closed as one check is, at depth Full, that came to the end of its report and isn't
-- quiet.
abbrev pub ClosesAsOneCheck : Type 0
ClosesAsOneCheck =
    (request : Request) (n : ℕ) → request.options.depth ≡ Full → request.quiet ≡ false
    → closing request (ended None n) ≡ full_closing request.name n

-- what so many parts of a report have found, cut of these files, where the files of their reports say
-- of these keys that they aren't checked
abbrev pub findings_of : Request → Option (List ℕ) → List FileEntry → ℕ → List Fault
    → List (List (List ℕ)) → Findings
findings_of request sum files parts report keys = record {
  subject = record {
    name = request.name;
    listed = listed_of files;
    clashes = request.options.clashes;
    profile = sum;
  };
  parts = faults_of_parts files parts report parts;
  keys = keys;
}

-- The law: a text as a field of a line is a key that a line may say so of.
abbrev pub FieldsAreKeys : Type 0
FieldsAreKeys = (text : List ℕ) → IsKey (field text)

-- A check of this bag from its first fault on finds this report, of these files, a program can hold
-- each fault and their numbers, and what stands for the profile is a SHA-256.
pub record Finds (bag : Bag) (profile : Option Profile) (sum : Option (List ℕ)) (request : Request)
    (files : List FileEntry) (report : List Fault) : Type 0 where
  pub from_first : request.after ≡ None
  pub is : IsReport (check_of bag profile request) report
  pub of_files : AreFilesIn bag files
  pub faults : (f : Fault) → Contains report f → IsFault f
  pub name : IsUtf8 request.name
  pub few : length report < 2 ^ 63
  pub count : length files < 2 ^ 64
  pub bytes : (listed_of files).bytes < 2 ^ 128
  pub sum_is : IsProfileSum sum

-- A run over this part of a bag, which an honest tree has, was done, and its output, which had taken
-- lines that say of keys that they aren't checked, and nothing else, has taken this text.
pub record WritesReport (bag : Bag) (profile : Option Profile) (sum : Option (List ℕ))
    (request : Request) (part : Part) (keys : List (List ℕ)) (text : List ℕ) : Type 0 where
  pub old : TreeState
  pub new : TreeState
  pub before : OutState
  pub after : OutState
  pub n : ℕ
  pub listed : Listed
  pub honest : IsTrue old.honest
  pub of_bag : old.bag ≡ bag
  pub run : IsRunOfPart old new profile sum part request before after (Done n listed)
  pub head : before.taken ≡ Some (head_of keys)
  pub took : after.taken ≡ Some text

-- The law: what runs wrote over all parts of one bag, each once, in any order, with the same profile
-- and options, are whole reports.
abbrev pub PartsAreWhole : Type 0
PartsAreWhole =
    (bag : Bag) (profile : Option Profile) (sum : Option (List ℕ)) (request : Request)
    (files : List FileEntry) (report : List Fault) (parts : ℕ) (reports : ReportsState)
    (order : List ℕ) (keys : List (List (List ℕ)))
    → Finds bag profile sum request files report → 0 < parts → parts ≤ 65536
    → IsTrue reports.honest → reports.count ≡ length reports.held → length reports.held ≡ parts
    → IsPermutation (range_with_len 0 parts) order
    → ((k : ℕ) → k < parts → AreKeys (slice_index_or keys k [])
    × (length (slice_index_or keys k []) < 2 ^ 62))
    → ((j : ℕ) → j < parts → WritesReport bag profile sum request
    (record { number = slice_index_or order j 0; of = parts })
    (slice_index_or keys (slice_index_or order j 0) []) (slice_index_or reports.held j []))
    → AreWhole (findings_of request sum files parts report keys) reports

-- The law: one run over that bag, at depth Full, which isn't quiet and comes to the end of its
-- report, writes just what they are joined into, and ends so.
abbrev pub RunWritesJoined : Type 0
RunWritesJoined =
    (old new : TreeState) (profile : Option Profile) (sum : Option (List ℕ)) (request : Request)
    (before after : OutState) (outcome : Outcome) (files : List FileEntry) (report : List Fault)
    (parts : ℕ) (keys : List (List (List ℕ)))
    → IsTrue old.honest → Finds old.bag profile sum request files report → 0 < parts
    → request.options.depth ≡ Full → request.quiet ≡ false
    → IsRunByReport old new profile request before after outcome → ReachesEnd outcome
    → IsReportOf (findings_of request sum files parts report keys) before after outcome
