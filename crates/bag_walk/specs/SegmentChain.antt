-- Segments of a report, each a run of its own between two states of the tree and of the output.
use Rattle.std.specs.Prelude.{ℕ, ◌≡◌, ◌⊎◌, ◌+◌, true, false, List, [], ◌∷◌, Option, drop}
use Rattle.bag_text.specs.Bytes.{Path}
use Rattle.bag_tree.specs.Out.{OutState}
use Rattle.bag_tree.specs.Tree.{Keeps, TreeState, NothingFailed}
use Rattle.bag_faults.specs.declared.fault.Fault.{Fault}
use Rattle.bag_faults.specs.declared.options.Options.{Options}
use Rattle.bag_profile.specs.Profile.{Profile}
use Rattle.bag_walk.specs.SegmentEnds.{IfUnread, IsRead, IsSegment}
use Rattle.bag_walk.specs.SegmentOpenings.{AreCompared, OpensInSegment}
use Rattle.bag_walk.specs.Segments.{ForReport, is_last, outcome_at}
use Rattle.bag_walk.specs.Stops.{MayStop}
use Rattle.bag_walk.specs.declared.outcome.Outcome.{Outcome}
use Rattle.bag_walk.specs.declared.outcome.Outcome.TheVariants.{Stopped}
use Rattle.bag_walk.specs.declared.segment.Segment.{Segment}

-- Where segments stand, before the first of them or after one: what the tree and the output mean
-- there, how many faults were written by then, and how the last segment ended.
pub record Progress : Type 0 where
  pub tree : TreeState
  pub out : OutState
  pub count : ℕ
  pub outcome : Outcome

-- before the first segment
abbrev pub before_segments : TreeState → OutState → Progress
before_segments tree out = record { tree = tree; out = out; count = 0; outcome = Stopped 0 }

-- The segment of one limit, from where the segments before it left the tree and the output.
pub record RunsSegment (profile : Option Profile) (options : Options) (limit : ℕ)
    (old new : Progress) : Type 0 where
  pub segment : Segment
  -- its faults are counted with those before it, and the outcome says how it ended
  pub counts : new.count ≡ old.count + segment.written
  pub ends : new.outcome ≡ outcome_at new.count segment.end
  -- the bag and what else stands there are kept, and a limit of 0 leaves the tree as it was
  pub keeps : Keeps old.tree new.tree
  pub untouched : limit ≡ 0 → new.tree ≡ old.tree
  -- where it isn't unread the tree refused it nothing, and else a refusal of its own stopped it
  pub no_failure : IsRead segment.end → NothingFailed old.tree new.tree
  pub stop : IfUnread segment.end (MayStop options old.tree new.tree)
  -- it wrote lines of faults, and over an honest tree the next ones of the report
  pub wrote : (faults : List Fault) × IsSegment faults limit old.out new.out segment
  pub next : ForReport old.tree profile options (λ report.
      IsSegment (drop old.count report) limit old.out new.out segment)
  -- and of the payload it opened the next of the files to compare, and no other
  pub opens : ForReport old.tree profile options (λ report.
      (compared : List Path) → AreCompared options old.tree.bag compared
      → OpensInSegment compared report old.count segment old.tree new.tree)

-- Each limit in order has its segment, which begins where the one before it ended. After one that
-- came to the end of the report, or whose output refused, none follows.
abbrev pub Chain : Option Profile → Options → List ℕ → Progress → Progress → Type 0
Chain profile options [] old new = new ≡ old
Chain profile options (limit ∷ limits) old new =
    (mid : Progress) × (run : RunsSegment profile options limit old mid)
    × (((is_last run.segment.end ≡ true) × (new ≡ mid))
    ⊎ ((is_last run.segment.end ≡ false) × Chain profile options limits mid new))

-- The theorem of segments, whatever the tree: such a chain leads from the states before to those
-- after, and its last segment is answered, with the number of faults that all wrote.
abbrev pub RunsInSegments : TreeState → TreeState → Option Profile → Options → List ℕ
    → OutState → OutState → Outcome → Type 0
RunsInSegments old new profile options limits before after outcome =
    (count : ℕ) × Chain profile options limits (before_segments old before)
    (record { tree = new; out = after; count = count; outcome = outcome })
