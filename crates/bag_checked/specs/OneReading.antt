-- Listed files that are read once, to check and to sum them.
use Rattle.std.specs.Prelude.{◌∷◌, [], List}
use Rattle.bag_facts.specs.declared.facts.Facts.{Facts}
use Rattle.bag_stages.specs.Expected.{Expected}
use Rattle.bag_tree.specs.FileReads.{OpensAtMost}
use Rattle.bag_tree.specs.Tree.{TreeState}
use Rattle.bag_tree.specs.declared.listing.FileEntry.{FileEntry}
use Rattle.bag_checked.specs.Checked.{IsUnchecked}
use Rattle.bag_checked.specs.InTurn.{IsOfSeventh}
use Rattle.bag_checked.specs.Stops.{StopsChecking}
use Rattle.bag_checked.specs.Summed.{IsFaultyFile}
use Rattle.bag_checked.specs.declared.checked.Unchecked.{Unchecked}

-- Why a file wasn't checked to its end, or which digest of it differs. It was opened once at most,
-- and no other.
pub record IsLeftUnchecked (entry : FileEntry) (expected : List Expected) (old new : TreeState)
    (unchecked : Unchecked) : Type 0 where
  pub opens : OpensAtMost old new entry.path
  pub differs : IsUnchecked old new entry expected unchecked
  pub stopped : StopsChecking (entry ∷ []) old new unchecked

-- Why these files weren't all checked to their end, or which digest is the first of them that
-- differs.
pub record AreLeftUnchecked (facts : Facts) (files : List FileEntry) (old new : TreeState)
    (unchecked : Unchecked) : Type 0 where
  pub faulty : IsFaultyFile facts files old unchecked
  pub seventh : IsOfSeventh unchecked
  pub stopped : StopsChecking files old new unchecked
