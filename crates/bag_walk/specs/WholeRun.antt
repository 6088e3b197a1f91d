-- All that is promised of a run.
use Rattle.std.specs.Prelude.{◌≡◌, Option, Some}
use Rattle.bag_tree.specs.Out.{OutState}
use Rattle.bag_tree.specs.Tree.{Keeps, TreeState}
use Rattle.bag_profile.specs.Profile.{Profile}
use Rattle.bag_walk.specs.Run.{IsRun, IsRunByReport}
use Rattle.bag_walk.specs.RunOpenings.{LooksNoFurther, OpensInRun, OpensInTurn, OpensNamed}
use Rattle.bag_walk.specs.RunOpenings.{OpensNonePassed, StopsInTurn}
use Rattle.bag_walk.specs.declared.outcome.Outcome.{Outcome}
use Rattle.bag_walk.specs.declared.outcome.Request.{Request}

-- A run over a tree, by a profile or without one, which left it as `new`: it shows the faults of
-- the tree's bag wherever the tree is honest, changes nothing, opens no more than it has to and
-- only in its turn, and stops at its device only where that failed.
pub record IsRunOver (tree new : TreeState) (profile : Option Profile) (request : Request)
    (before after : OutState) (outcome : Outcome) : Type 0 where
  -- the bag and what else stands there are kept; with a limit of 0 nothing was looked at
  pub keeps : Keeps tree new
  pub untouched : request.limit ≡ Some 0 → new ≡ tree
  -- which files it opens: tag files and then, at depth Full, those whose digests are compared; of
  -- the payload those alone that payload manifests name, and none that the cursor has passed
  pub opens : OpensInRun request.options tree new
  pub payload : OpensNamed request.options tree new
  pub none_passed : OpensNonePassed request.after tree new
  -- and when: not before the lines of the faults that stand before them; where it stops at a file,
  -- those before that one; and where the faults of stages 1 to 6 reach the limit, tag files alone
  pub in_turn : OpensInTurn tree new profile request outcome
  pub stopped : StopsInTurn tree new profile request outcome
  pub unlooked : LooksNoFurther tree new profile request
  -- what it writes and how it ends: the run theorem, and the same by the report of the bag
  pub run : IsRun tree new profile request before after outcome
  pub by_report : IsRunByReport tree new profile request before after outcome
