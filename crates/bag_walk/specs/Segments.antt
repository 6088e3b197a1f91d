-- A report in segments, each with a limit of its own.
use Rattle.std.specs.Prelude.{ℕ, ◌+◌, ◌-◌, ◌<◌, ◌≤◌, ◌≡◌, ◌⊎◌, ◌++◌, Bool, true, false, IsTrue}
use Rattle.std.specs.Prelude.{List, [], ◌∷◌, length, drop, sum, Option, None}
use Rattle.std.specs.List.Sorted.{IsStrictlySortedBy}
use Rattle.bag_text.specs.Bytes.{Path}
use Rattle.bag_tree.specs.Out.{OutState}
use Rattle.bag_tree.specs.Tree.{TreeState, MayReportMemory}
use Rattle.bag_tree.specs.declared.tree_fault.Stop.{Stop}
use Rattle.bag_tree.specs.declared.tree_fault.TreeFault.{TreeFault}
use Rattle.bag_tree.specs.declared.tree_fault.TreeFault.TheVariants.{Device, Special, Name, Memory}
use Rattle.bag_faults.specs.FaultOrder.{fault_cmp}
use Rattle.bag_faults.specs.declared.fault.Fault.{Fault}
use Rattle.bag_facts.specs.Stops.{MayRefuseFacts, ReportsAnswer}
use Rattle.bag_facts.specs.Wanted.{IsRefusedFile}
use Rattle.bag_faults.specs.declared.options.Options.{Options}
use Rattle.bag_profile.specs.Profile.{Profile}
use Rattle.bag_report.specs.Report.{IsReport, above, first}
use Rattle.bag_walk.specs.Ending.{ended, written, TookAll, TookPart}
use Rattle.bag_walk.specs.declared.outcome.Outcome.{Outcome}
use Rattle.bag_walk.specs.declared.outcome.Outcome.TheVariants.{Stopped, Unread, Unwritten}
use Rattle.bag_walk.specs.LastLine.{IsLastLine, cursor_after}
use Rattle.bag_walk.specs.SegmentEnds.{IsSegment}
use Rattle.bag_walk.specs.SegmentOpenings.{AreCompared, OpensFew}
use Rattle.bag_walk.specs.Stops.{IfRunUnread, IsOfSummed}
use Rattle.bag_walk.specs.declared.segment.Segment.{Segment}
use Rattle.bag_walk.specs.declared.segment.SegmentEnd.{SegmentEnd}
use Rattle.bag_walk.specs.declared.segment.SegmentEnd.TheVariants as end_of

-- the law: a segment of n faults and one of m after it are the first n + m faults
abbrev pub SegmentsJoin : Type 0
SegmentsJoin =
    (report : List Fault) (n m : ℕ) → IsStrictlySortedBy fault_cmp report → n ≤ length report
    → first n report ++ first m (above (cursor_after n report) report) ≡ first (n + m) report

-- how many limits a refusal costs that only a failure of the device brings
abbrev pub cost : TreeFault → ℕ
cost Device = 1
cost Special = 1
cost Name = 1
cost other = 0

-- From where r limits were unread, u of them lost to the device, and n faults written, and the last
-- segment ended so, the segments of these limits lead to u', r', n' and outcome'. Each limit is in
-- order one of four.
abbrev pub SegmentsFrom : List Fault → (Stop → Type 0)
    → ℕ → ℕ → ℕ → Outcome → List ℕ → ℕ → ℕ → ℕ → Outcome → Type 0
SegmentsFrom report Stops u r n outcome [] u' r' n' outcome' =
    (u' ≡ u) × (r' ≡ r) × (n' ≡ n) × (outcome' ≡ outcome)
SegmentsFrom report Stops u r n outcome (m ∷ limits) u' r' n' outcome' =
    -- full: as many faults are left as the limit allows
    ((m ≤ length report - n)
    × SegmentsFrom report Stops u r (n + m) (Stopped (n + m)) limits u' r' n' outcome')
    -- the end: fewer are left, and no further limit is looked at
    ⊎ ((length report - n < m) × (u' ≡ u) × (r' ≡ r)
    × (n' ≡ length report) × (outcome' ≡ ended None (length report)))
    -- unread: the tree or memory refused after fewer faults
    ⊎ ((j : ℕ) × (stop : Stop) × (j < m) × (n + j ≤ length report) × Stops stop
    × SegmentsFrom report Stops (u + cost stop.cause) (r + 1) (n + j) (Unread (n + j) stop)
    limits u' r' n' outcome')
    -- unwritten: the output refused the line of a fault, and no further limit is looked at
    ⊎ ((j : ℕ) × (j < m) × (n + j < length report) × (u' ≡ u) × (r' ≡ r)
    × (n' ≡ n + j) × (outcome' ≡ Unwritten (n + j)))

-- The segments of these limits write n faults of the report, r of them are unread and u of these
-- lost to the device, and the last ends so.
abbrev pub AreSegments : List Fault → (Stop → Type 0) → List ℕ → ℕ → ℕ → ℕ → Outcome → Type 0
AreSegments report Stops limits u r n outcome =
    SegmentsFrom report Stops 0 0 0 (Stopped 0) limits u r n outcome

-- the lines of the first n faults were written, and where the output refused a proper part of the
-- next line
abbrev pub WroteSegments : ℕ → List Fault → OutState → OutState → Outcome → Type 0
WroteSegments n report before after (Unwritten k) = TookPart n (written report) before after
WroteSegments n report before after outcome = TookAll (written (first n report)) before after

-- why a segment may stop, by what the tree was before all of them and after: it names a file that a
-- run reads, or none
pub record MayLose (options : Options) (old new : TreeState) (stop : Stop) : Type 0 where
  pub cause : MayRefuseFacts old new stop.cause
  pub path : (stop.path ≡ []) ⊎ IsRefusedFile options old stop ⊎ IsOfSummed options old stop
  pub memory : stop.cause ≡ Memory → stop.path ≡ []

-- The stop of the last segment, whatever the tree, after those of the limits before it. Its cause
-- is the tree's own answer, but for out of memory; where these limits are all 0 out of memory is
-- reported only where the tree reported it or refused nothing.
abbrev pub IsStopped : Options → List ℕ → TreeState → TreeState → Outcome → Type 0
IsStopped options before old new outcome =
    IfRunUnread outcome (λ stop. MayLose options old new stop × ReportsAnswer new stop
    × (sum before ≡ 0 → stop.cause ≡ Memory → MayReportMemory old new))

-- What the segments of these limits write of a report, how the last ends, and which payload files
-- they open. Each failure of the device costs one limit at most.
pub record RunsOfSegments (options : Options) (report : List Fault) (limits : List ℕ)
    (old new : TreeState) (before after : OutState) (outcome : Outcome) : Type 0 where
  pub lost : ℕ
  pub unread : ℕ
  pub count : ℕ
  pub segments : AreSegments report (MayLose options old new) limits lost unread count outcome
  pub few_lost : old.failures + lost ≤ new.failures
  pub wrote : WroteSegments count report before after outcome
  pub opens : (compared : List Path) → AreCompared options old.bag compared
      → OpensFew compared (length limits) unread old new

-- whether no further segment follows
abbrev pub is_last : SegmentEnd → Bool
is_last end_of.Full = false
is_last end_of.AtEnd = true
is_last (end_of.Unread stop) = false
is_last end_of.Unwritten = true

-- the outcome where a segment ended so and n faults were written
abbrev pub outcome_at : ℕ → SegmentEnd → Outcome
outcome_at n end_of.Full = Stopped n
outcome_at n end_of.AtEnd = ended None n
outcome_at n (end_of.Unread stop) = Unread n stop
outcome_at n end_of.Unwritten = Unwritten n

-- A segment after the first n faults of a report, which leaves the line of the last fault that was
-- written.
pub record ContinuesReport (report : List Fault) (n limit : ℕ) (before after : OutState)
    (line : List ℕ) (segment : Segment) : Type 0 where
  pub writes : IsSegment (drop n report) limit before after segment
  pub last : IsLastLine (cursor_after (n + segment.written) report) line

-- so it is for the report of an honest tree's bag
abbrev pub ForReport : TreeState → Option Profile → Options → (List Fault → Type 0) → Type 0
ForReport old profile options Holds =
    IsTrue old.honest → (report : List Fault)
    → IsReport (record { bag = old.bag; profile = profile; options = options }) report
    → Holds report

-- and for the number n of its faults up to the last line's
abbrev pub ForReportFrom : TreeState → Option Profile → Options → List ℕ
    → (List Fault → ℕ → Type 0) → Type 0
ForReportFrom old profile options line Holds =
    ForReport old profile options (λ report.
    (n : ℕ) → n ≤ length report → IsLastLine (cursor_after n report) line → Holds report n)
