-- What all parts of a check found, and the reports that say so.
use Rattle.std.specs.Prelude.{ℕ, ◌+◌, ◌<◌, ◌≤◌, ◌^◌, ◌≡◌, ◌++◌, IsTrue, List, [], Some}
use Rattle.std.specs.Prelude.{Contains, None, Option, length, map, slice_get, slice_index_or, vec_len}
use Rattle.std.specs.Io.KnownBytes.{Appends}
use Rattle.std.specs.List.{range_with_len}
use Rattle.std.specs.List.Sorted.{IsPermutation, IsStrictlySortedBy}
use Rattle.bag_tree.specs.Out.{OutState}
use Rattle.bag_faults.specs.FaultOrder.{fault_cmp}
use Rattle.bag_faults.specs.LineOf.{IsFault}
use Rattle.bag_faults.specs.declared.fault.Fault.{Fault}
use Rattle.bag_reports.specs.DoneLine.{IsSubject}
use Rattle.bag_reports.specs.Faults.{AreAfter}
use Rattle.bag_reports.specs.Head.{AreKeys, head_of}
use Rattle.bag_reports.specs.Reports.{ReportsState}
use Rattle.bag_reports.specs.declared.done_line.DoneLine.{DoneLine}
use Rattle.bag_reports.specs.declared.done_line.Subject.{Subject}
use Rattle.bag_join.specs.Join.{all_faults, full_report, part_report}
use Rattle.bag_join.specs.declared.plan.Plan.{Plan}
use Rattle.bag_walk.specs.Ending.{ended}
use Rattle.bag_walk.specs.declared.outcome.Outcome.{Outcome}

-- what all parts of a check found
pub record Findings : Type 0 where
  -- what was checked, and how
  pub subject : Subject
  -- the faults of each part, in turn
  pub parts : List (List Fault)
  -- the keys that the file of its report says aren't checked
  pub keys : List (List (List ℕ))

-- the keys that the file of the report of the part with this number, counted from 0, says so of
abbrev pub keys_at : Findings → ℕ → List (List ℕ)
keys_at findings number = slice_index_or findings.keys number []

-- what a check may find: faults in order, and names and numbers as runs have them
pub record AreFindings (findings : Findings) : Type 0 where
  pub some : 0 < length findings.parts
  pub most : length findings.parts ≤ 65536
  pub subject : IsSubject findings.subject
  pub few : length (all_faults findings.parts) < 2 ^ 63
  pub are_faults : (f : Fault) → Contains (all_faults findings.parts) f → IsFault f
  pub in_order : IsStrictlySortedBy fault_cmp (all_faults findings.parts)
  pub keys : (k : ℕ) → k < length findings.parts → AreKeys (keys_at findings k)
  pub few_keys : (k : ℕ) → k < length findings.parts → length (keys_at findings k) < 2 ^ 62

-- the faults of the part with this number, counted from 0
abbrev pub faults_at : Findings → ℕ → List Fault
faults_at findings number = slice_index_or findings.parts number []

-- the file of its whole report
abbrev pub file_at : Findings → ℕ → List ℕ
file_at findings number =
    head_of (keys_at findings number)
    ++ part_report findings.subject (record { number = number; of = length findings.parts })
    (faults_at findings number)

-- what its closing line says
abbrev pub done_at : Findings → ℕ → DoneLine
done_at findings number = record {
  subject = findings.subject;
  part = record { number = number; of = length findings.parts };
  count = length (faults_at findings number);
}

-- Honest reports are the files of the whole reports of all parts, each once, in some order.
pub record AreWhole (findings : Findings) (reports : ReportsState) : Type 0 where
  pub are : AreFindings findings
  pub honest : IsTrue reports.honest
  pub count : reports.count ≡ length reports.held
  pub order : List ℕ
  pub each_once : IsPermutation (range_with_len 0 (length findings.parts)) order
  pub held : reports.held ≡ map (file_at findings) order

-- they were joined: the report of one check that found so was written, and this is its outcome
abbrev pub IsReportOf : Findings → OutState → OutState → Outcome → Type 0
IsReportOf findings before after outcome =
    (outcome ≡ ended None (length (all_faults findings.parts)))
    × Appends before.taken after.taken (full_report findings.subject.name (all_faults findings.parts))

-- the plan names the report of each part
pub record IsPlanFor (findings : Findings) (reports : ReportsState) (plan : Plan) : Type 0 where
  pub subject : plan.subject ≡ findings.subject
  pub parts : vec_len plan.places ≡ length findings.parts
  pub placed : (k : ℕ) → k < length findings.parts → (report : ℕ)
      × (slice_get plan.places.items k ≡ Some (Some report)) × (report < reports.count)
      × (slice_get reports.held report ≡ Some (file_at findings k))

-- the turn of the part with this number has come, whose report this is, after so many faults
pub record IsTurnOf (findings : Findings) (reports : ReportsState) (plan : Plan)
    (number report total : ℕ) (last : Option Fault) : Type 0 where
  pub are : AreFindings findings
  pub honest : IsTrue reports.honest
  pub planned : IsPlanFor findings reports plan
  pub below : number < length findings.parts
  pub there : report < reports.count
  pub held : slice_get reports.held report ≡ Some (file_at findings number)
  pub after : AreAfter last (faults_at findings number)
  pub few : total + length (faults_at findings number) < 2 ^ 63
