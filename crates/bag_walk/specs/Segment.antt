-- A segment of a report: the lines of its first faults.
use Rattle.std.specs.Prelude.{◌≡◌, ◌⊎◌, List, []}
use Rattle.bag_text.specs.Bytes.{Path}
use Rattle.bag_tree.specs.Tree.{MayReportMemory, TreeState, CameFromFile}
use Rattle.bag_tree.specs.declared.tree_fault.Stop.{Stop}
use Rattle.bag_tree.specs.declared.tree_fault.TreeFault.TheVariants.{Memory}
use Rattle.bag_tree.specs.Stop.{IsOutOfMemory}
use Rattle.bag_facts.specs.Stops.{MayRefuseFacts}
use Rattle.bag_facts.specs.StopsAmong.{IsRefusedAmong}

-- memory ran out: no file is named, and the tree reported it or refused nothing
abbrev pub RanOutOfMemory : TreeState → TreeState → Stop → Type 0
RanOutOfMemory old new stop = IsOutOfMemory stop × MayReportMemory old new

-- Why a run over a walk stops whose source is of an honest tree's bag: at a file that was to be
-- opened, or when out of memory.
pub record StopsWalk (todo : List Path) (old new : TreeState) (stop : Stop) : Type 0 where
  pub cause : MayRefuseFacts old new stop.cause
  pub answered : CameFromFile new stop.cause
  pub path : IsOutOfMemory stop ⊎ IsRefusedAmong todo old new stop.path
  pub memory : stop.cause ≡ Memory → stop.path ≡ []
  pub out_of_memory : stop.cause ≡ Memory → MayReportMemory old new

abbrev pub MayStopRun : Type 0 → List Path → TreeState → TreeState → Stop → Type 0
MayStopRun IsOf todo old new stop = RanOutOfMemory old new stop
    ⊎ (IsOf → StopsWalk todo old new stop)
