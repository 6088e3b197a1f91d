-- Why files that are opened one after another aren't all read to their end.
use Rattle.std.specs.Prelude.{◌≡◌, ◌⊎◌, ◌++◌, ◌∷◌, All, IsTrue, List}
use Rattle.bag_text.specs.Bytes.{Path}
use Rattle.bag_tree.specs.Tree.{CameFromFile, IsRefusedAt, MayReportMemory, TreeState}
use Rattle.bag_tree.specs.FileReads.{IsEntryOf}
use Rattle.bag_tree.specs.Stop.{IsOutOfMemory}
use Rattle.bag_tree.specs.declared.listing.FileEntry.{FileEntry}
use Rattle.bag_tree.specs.declared.tree_fault.Stop.{Stop}
use Rattle.bag_tree.specs.declared.tree_fault.TreeFault.TheVariants.{Memory}
use Rattle.bag_facts.specs.Stops.{MayRefuseFacts}
use Rattle.bag_facts.specs.Wanted.{paths_of}

-- Of these files this one was refused: those before it had been opened, each once and in their
-- order, and no other.
abbrev pub IsRefusedAmong : List Path → TreeState → TreeState → Path → Type 0
IsRefusedAmong paths old new path =
    (before : List Path) × (after : List Path) × (paths ≡ before ++ path ∷ after)
    × IsRefusedAt (old.openings ++ before) path new

-- Reading stopped at one of these files, or when out of memory. The cause is the tree's own answer,
-- and out of memory is reported only where the tree reported it or refused nothing.
pub record StopsAmong (files : List FileEntry) (old new : TreeState) (stop : Stop) : Type 0 where
  pub cause : (IsTrue old.honest → All (IsEntryOf old.bag) files)
      → MayRefuseFacts old new stop.cause
  pub answered : CameFromFile new stop.cause
  pub path : IsOutOfMemory stop ⊎ IsRefusedAmong (paths_of files) old new stop.path
  pub out_of_memory : stop.cause ≡ Memory → MayReportMemory old new
