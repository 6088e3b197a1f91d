-- Files whose digests are to be compared.
use Rattle.std.specs.Prelude.{ℕ, ◌≡◌, ◌⊎◌, List, [], ◌∷◌, ◌++◌, map, flat_map}
use Rattle.std.specs.Prelude.{Option, None, Some, IsTrue}
use Rattle.bag_text.specs.Bytes.{Content, Path}
use Rattle.bag_tree.specs.Bag.{Bag, file}
use Rattle.bag_tree.specs.Tree.{TreeState, IsRefusedAt}
use Rattle.bag_tree.specs.FileReads.{IsEntryOf}
use Rattle.bag_tree.specs.declared.tree_fault.Stop.{Stop}
use Rattle.bag_tree.specs.Stop.{IsOutOfMemory}
use Rattle.bag_faults.specs.declared.fault.Fault.{Fault}
use Rattle.bag_stages.specs.SumFaults.{faults_of_bytes}
use Rattle.bag_report.specs.Report.{above}
use Rattle.bag_sources.specs.Filling.{MayStopAnyway, MayStopFilling}
use Rattle.bag_sources.specs.declared.to_sum.ToSum.{ToSum}

-- the faults of a file with these bytes, and none of one that isn't there
abbrev pub faults_at : ToSum → Option Content → List Fault
faults_at to_sum None = []
faults_at to_sum (Some content) = faults_of_bytes to_sum.file.path content to_sum.expected

-- the faults of a file of the bag
abbrev pub faults_in : Bag → ToSum → List Fault
faults_in bag to_sum = faults_at to_sum (file bag to_sum.file.path)

-- the faults of files of the bag above a cursor, one file after another
abbrev pub faults_of_files : Bag → Option Fault → List ToSum → List Fault
faults_of_files bag after files = flat_map (λ to_sum. above after (faults_in bag to_sum)) files

-- where they stand
abbrev pub paths_to_sum : List ToSum → List Path
paths_to_sum files = map (λ to_sum. to_sum.file.path) files

-- a file whose digests are compared, between two states of a tree
module _ (to_sum : ToSum) (old new : TreeState) where
  -- it was opened, and no other
  abbrev pub OpensIt : Type 0
  OpensIt = new.openings ≡ old.openings ++ to_sum.file.path ∷ []

  -- memory ran out, or it was refused before any other file was opened
  abbrev pub StopsAtIt : Stop → Type 0
  StopsAtIt stop = IsOutOfMemory stop
      ⊎ ((stop.path ≡ to_sum.file.path) × IsRefusedAt old.openings to_sum.file.path new)

  -- whatever files come after it, finding a fault may stop so if it is an entry of an honest tree
  abbrev pub MayStopAtIt : Stop → Type 0
  MayStopAtIt stop =
      (rest : List (List ℕ)) → (IsTrue old.honest → IsEntryOf old.bag to_sum.file)
      → MayStopFilling (to_sum.file.path ∷ rest) old new stop

  -- and over any tree so
  abbrev pub MayStopAtItAnyway : Stop → Type 0
  MayStopAtItAnyway stop =
      (rest : List (List ℕ)) → MayStopAnyway (to_sum.file.path ∷ rest) old new stop
