-- What checks and makings of honest disks report.
use Rattle.std.specs.Prelude.{ℕ, ◌≡◌, ◌≢◌, IsTrue, List, [], ◌∷◌, Option, None, length, min}
use Rattle.std.specs.Io.KnownBytes.{Appends}
use Rattle.std.specs.List.{concat}
use Rattle.bag_tree.specs.Out.{OutState}
use Rattle.bag_tree.specs.Bag.{Bag}
use Rattle.bag_tree.specs.Tree.{TreeState}
use Rattle.bag_disk.specs.Disk.{DiskState}
use Rattle.bag_program.specs.Visits.{Event}
use Rattle.bag_store.specs.DiskBag.{bag_of}
use Rattle.bag_store.specs.FileTree.{tree_state}
use Rattle.bag_faults.specs.declared.fault.Fault.{Fault}
use Rattle.bag_walk.specs.ExitStatus.{status}
use Rattle.bag_walk.specs.Ending.{ideal, limit_of, lines_of_run}
use Rattle.bag_walk.specs.declared.outcome.Request.{Request}
use Rattle.bag_profile.specs.Profile.{Profile}
use Rattle.bag_report.specs.Report.{IsReport, above, first}
use Rattle.bag_walk.specs.Run.{check_of}
use Rattle.bag_cli.specs.Honest.{IsReportedMade}
use Rattle.bag_arguments.specs.declared.plan.Action.TheVariants.{Check}
use Rattle.bag_arguments.specs.declared.plan.Plan.{Plan}
use Rattle.bag_cli.specs.Checked.{AreChecksOf, profile_of, request_of}
use Rattle.bag_program.specs.Visits.{visit_of}
use Rattle.bag_cli.specs.Makings.{AreMakingsOf}
use Rattle.bag_cli.specs.declared.profile_file.SummedProfile.{SummedProfile}

-- of these faults, which are above the cursor, those that a request shows where nothing is refused
abbrev pub shown_of : Request → List Fault → List Fault
shown_of request faults = first (min (limit_of request) (length faults)) faults

-- the lines that a request has where nothing is refused, by the faults above the cursor
abbrev pub reported_lines : Request → List Fault → List (List ℕ)
reported_lines request faults =
    lines_of_run request (shown_of request faults) (ideal request faults)

-- Unless a read, a write or a growth was refused, the output took the lines of the bag's report
-- above the cursor, up to the limit, and the closing line, and the status tells whether there are
-- faults.
abbrev pub GivesReport : Plan → Option Profile → Bag → List ℕ → OutState → OutState → ℕ → Type 0
GivesReport plan profile bag name before after n =
    let request = request_of plan name in
    n ≢ 3 → (report : List Fault) → IsReport (check_of bag profile request) report
    → (n ≡ status (ideal request (above plan.after report)))
    × Appends before.taken after.taken (concat (reported_lines request (above plan.after report)))

-- the law: over an honest disk, the check of one directory, and not of a part of it, gives the
-- report of the bag that stands there
abbrev pub HonestDisksAreReported : Type 0
HonestDisksAreReported =
    (plan : Plan) (profile : Option SummedProfile) (below : List ℕ → DiskState) (name : List ℕ)
    (before after : OutState) (visits : List Event) (n : ℕ) → IsTrue (below name).honest
    → plan.part ≡ None
    → AreChecksOf plan profile (λ name. tree_state (below name) 0) (name ∷ []) before after visits n
    → GivesReport plan (profile_of profile) (bag_of (below name).nodes) name before after n

-- The folder's tree was left as the bag that the plan makes of what stood there, which has no fault
-- where its size can be known and outlasts a power cut. That was said, but for a quiet making.
abbrev pub ReportsMade : Plan → TreeState → List ℕ → OutState → OutState → List Event → Type 0
ReportsMade plan tree name before after visits =
    (new : TreeState) × (visits ≡ visit_of name new)
    × IsReportedMade name plan.algs plan.info plan.quiet tree new before after 0

-- the law: over an honest disk, the making of one directory with status 0 left it a bag, and
-- reported that
abbrev pub HonestFoldersAreMade : Type 0
HonestFoldersAreMade =
    (plan : Plan) (below : List ℕ → DiskState) (name : List ℕ)
    (before after : OutState) (visits : List Event) → IsTrue (below name).honest
    → AreMakingsOf plan (λ name. tree_state (below name) 0) (name ∷ []) before after visits 0
    → ReportsMade plan (tree_state (below name) 0) name before after visits

-- the law: a check of a part never ends with 0, so that nobody takes its verdict for the bag's
abbrev pub NoPartEndsWithZero : Type 0
NoPartEndsWithZero =
    (plan : Plan) (profile : Option SummedProfile) (tree_of : List ℕ → TreeState) (name : List ℕ)
    (names : List (List ℕ)) (before after : OutState) (visits : List Event) (n : ℕ)
    → plan.part ≢ None → AreChecksOf plan profile tree_of (name ∷ names) before after visits n
    → n ≢ 0

-- a plan that checks one directory, all of it, without a profile
abbrev pub IsCheckOfOne : Plan → List ℕ → Type 0
IsCheckOfOne plan name =
    (plan.action ≡ Check) × (plan.profile ≡ None) × (plan.directories ≡ name ∷ [])
    × (plan.part ≡ None)
