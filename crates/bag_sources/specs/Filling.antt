-- What finding the first fault of a source promises.
use Rattle.std.specs.Prelude.{ℕ, ⊤, ◌≡◌, ◌⊎◌, ◌∷◌, Bool, true, false, IsTrue, List, [], Contains}
use Rattle.std.specs.Prelude.{Option, None, Some}
use Rattle.std.specs.declared.cmp.Ordering.TheVariants.{Less}
use Rattle.bag_text.specs.Bytes.{Path}
use Rattle.bag_tree.specs.Bag.{HasFile}
use Rattle.bag_tree.specs.Tree.{MayReportMemory, TreeState, CameFromFile}
use Rattle.bag_tree.specs.declared.tree_fault.Stop.{Stop}
use Rattle.bag_tree.specs.declared.tree_fault.TreeFault.{TreeFault}
use Rattle.bag_tree.specs.declared.tree_fault.TreeFault.TheVariants.{Changed, Memory, NotFound}
use Rattle.bag_faults.specs.FaultOrder.{fault_cmp}
use Rattle.bag_faults.specs.declared.fault.Fault.{Fault}
use Rattle.bag_tree.specs.Stop.{IsOutOfMemory}
use Rattle.bag_facts.specs.Stops.{MayRefuseFacts}

-- Why a file may be refused, whatever the tree and whatever files are asked for: one may not be
-- there or have another size.
abbrev pub MayRefuseAnyway : TreeState → TreeState → TreeFault → Type 0
MayRefuseAnyway old new NotFound = ⊤
MayRefuseAnyway old new Changed = ⊤
MayRefuseAnyway old new cause = MayRefuseFacts old new cause

-- Finding the first fault stopped, over any tree: at the next file, or when out of memory.
pub record MayStopAnyway (todo : List Path) (old new : TreeState) (stop : Stop) : Type 0 where
  pub cause : MayRefuseAnyway old new stop.cause
  pub answered : CameFromFile new stop.cause
  pub path : IsOutOfMemory stop ⊎ ((rest : List (List ℕ)) × (todo ≡ stop.path ∷ rest))
  pub memory : stop.cause ≡ Memory → stop.path ≡ []
  pub out_of_memory : stop.cause ≡ Memory → MayReportMemory old new

-- the file that was refused is the next to be opened, and stands in an honest tree's bag
abbrev pub IsNext : List Path → TreeState → Path → Type 0
IsNext todo old path =
    ((rest : List (List ℕ)) × (todo ≡ path ∷ rest)) × (IsTrue old.honest → HasFile old.bag path)

-- Finding the first fault stopped: at the next file, or when out of memory. The cause is the tree's
-- own answer, but for out of memory, which is reported only where the tree reported it or refused
-- nothing.
pub record MayStopFilling (todo : List Path) (old new : TreeState) (stop : Stop) : Type 0 where
  pub cause : MayRefuseFacts old new stop.cause
  pub answered : CameFromFile new stop.cause
  pub path : IsOutOfMemory stop ⊎ IsNext todo old stop.path
  pub memory : stop.cause ≡ Memory → stop.path ≡ []
  pub out_of_memory : stop.cause ≡ Memory → MayReportMemory old new

-- so it is where the test holds
abbrev pub Where : Bool → Type 0 → Type 0
Where true P = P
Where false P = ⊤

-- each of the first faults is less than each of the second
abbrev pub AllBelow : List Fault → List Fault → Type 0
AllBelow faults others =
    (f g : Fault) → Contains faults f → Contains others g → fault_cmp f g ≡ Less

abbrev pub first_of : {A : Type 0} → List A → Option A
first_of [] = None
first_of (x ∷ xs) = Some x
