-- How a segment of a report ends.
use Rattle.std.specs.Prelude.{ℕ, ◌-◌, ◌<◌, ◌≤◌, ◌≡◌, ⊤, List, length, take, drop}
use Rattle.bag_tree.specs.Out.{OutState}
use Rattle.bag_tree.specs.declared.tree_fault.Stop.{Stop}
use Rattle.bag_faults.specs.declared.fault.Fault.{Fault}
use Rattle.bag_walk.specs.Ending.{written, IsAnswered, TookAll, TookPart}
use Rattle.bag_walk.specs.Writer.{WritesReport}
use Rattle.bag_walk.specs.declared.outcome.Outcome.{Outcome}
use Rattle.bag_walk.specs.declared.outcome.Request.{Request}
use Rattle.bag_walk.specs.declared.segment.Segment.{Segment}
use Rattle.bag_walk.specs.declared.segment.SegmentEnd.{SegmentEnd}
use Rattle.bag_walk.specs.declared.segment.SegmentEnd.TheVariants.{Full, AtEnd, Unread, Unwritten}

-- the segment ended at this stop
abbrev pub StopsAt : Segment → Stop → Type 0
StopsAt segment stop = segment.end ≡ Unread stop

-- the tree and memory refused nothing
abbrev pub IsRead : SegmentEnd → Type 0
IsRead (Unread stop) = ⊥
IsRead end = ⊤

-- the lines of the first of these faults and a closing line were written, which reports a stop
-- that the segment reports
abbrev pub ClosesSegment : Request → List Fault → Segment → OutState → OutState → Outcome → Type 0
ClosesSegment request faults segment before after outcome =
    (writes : WritesReport request faults (StopsAt segment) before after outcome)
    × (IsAnswered writes.ending → IsRead segment.end)

-- how many faults are less than the one that was looked for last, where n were written
abbrev pub looked_past : SegmentEnd → ℕ → ℕ
looked_past Full n = n - 1
looked_past end n = n

-- The faults that were still to come when a segment had looked furthest: after those that it wrote,
-- and at its limit the last that it wrote too.
abbrev pub still_to_come : Segment → List Fault → List Fault
still_to_come segment faults = drop (looked_past segment.end segment.written) faults

-- what refused them
abbrev pub IfUnread : SegmentEnd → (Stop → Type 0) → Type 0
IfUnread (Unread stop) Stops = Stops stop
IfUnread end Stops = ⊤

-- the lines of the first n faults were written, and where the output refused a proper part of the
-- next line
abbrev pub WroteFirst : List Fault → ℕ → OutState → OutState → SegmentEnd → Type 0
WroteFirst faults n before after Unwritten = TookPart n (written faults) before after
WroteFirst faults n before after end = TookAll (written (take n faults)) before after

-- So a segment of these faults may end that has written the lines of n of them.
abbrev pub EndsSegment : List Fault → ℕ → ℕ → SegmentEnd → Type 0
EndsSegment faults limit n Full = (n ≡ limit) × (n ≤ length faults)
EndsSegment faults limit n AtEnd = (n < limit) × (n ≡ length faults)
EndsSegment faults limit n (Unread stop) = (n < limit) × (n ≤ length faults)
EndsSegment faults limit n Unwritten = (n < limit) × (n < length faults)

-- a segment of these faults
pub record IsSegment (faults : List Fault) (limit : ℕ) (before after : OutState)
    (segment : Segment) : Type 0 where
  pub ends : EndsSegment faults limit segment.written segment.end
  pub wrote : WroteFirst faults segment.written before after segment.end
