-- What a segment of a walk writes and opens.
use Rattle.std.specs.Prelude.{ℕ, List, drop}
use Rattle.bag_tree.specs.Out.{OutState}
use Rattle.bag_tree.specs.Tree.{Keeps, NothingFailed, TreeState}
use Rattle.bag_tree.specs.declared.tree.Tree as Tree
use Rattle.bag_faults.specs.declared.fault.Fault.{Fault}
use Rattle.bag_walk.specs.LastLine.{IsLastOf}
use Rattle.bag_walk.specs.Segment.{MayStopRun}
use Rattle.bag_walk.specs.SegmentEnds.{IfUnread, IsRead, IsSegment}
use Rattle.bag_walk.specs.SegmentEnds.{still_to_come}
use Rattle.bag_sources.specs.SourceOpenings.{NoFaultBeforeStop, OpensAgain, OpensNoFileEarly}
use Rattle.bag_sources.specs.Steps.{ForEachBag, WalkIsOfHonest, left, state, to_open}
use Rattle.bag_walk.specs.declared.segment.Segment.{Segment}
use Rattle.bag_sources.specs.declared.source.Source as Source
use Rattle.bag_sources.specs.declared.steps.Steps.{Steps}

module _ {T S : Type 0} (tree : Tree.Ghosts T) (source : Source.Ghosts S T) where
  -- A segment of what a walk had still to give, which left its tree as `new`: the lines of the
  -- first of those faults, up to a limit, and the last line that was written. It opened the first
  -- of the walk's files, in their order, of which the last may be opened again; and none before the
  -- line of a fault that stands before it. It stops at a file before which no fault is left.
  pub record WritesSegment (old : Steps T S) (new : TreeState) (limit : ℕ)
      (before after : OutState) (last new_last : List ℕ) (segment : Segment) : Type 0 where
    pub keeps : Keeps (state tree source old) new
    pub no_failure : IsRead segment.end → NothingFailed (state tree source old) new
    pub opens : (files : List (List ℕ)) ×
        OpensAgain (to_open source old) files (state tree source old) new
    pub none_early : ForEachBag tree source old (λ bag.
        OpensNoFileEarly (still_to_come segment (left source bag old)) (state tree source old) new)
    pub waits : IfUnread segment.end (λ stop. ForEachBag tree source old (λ bag.
        NoFaultBeforeStop (drop segment.written (left source bag old)) stop.path))
    pub seen : ForEachBag tree source old (λ bag.
        IsSegment (left source bag old) limit before after segment)
    -- of a bag that isn't seen they are the lines of some faults
    pub unseen : (faults : List Fault) × IsSegment faults limit before after segment
    pub last_line : ForEachBag tree source old (λ bag.
        IsLastOf (left source bag old) segment.written last new_last)
    pub stop : IfUnread segment.end (MayStopRun (WalkIsOfHonest tree source old)
        (to_open source old) (state tree source old) new)
