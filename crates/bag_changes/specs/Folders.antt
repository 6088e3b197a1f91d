-- Looking for folders that have the name of a file that a renewal puts or removes.
use Rattle.std.specs.Prelude.{◌≡◌, ◌≢◌, true, Contains, IsTrue, List}
use Rattle.bag_text.specs.Bytes.{Name}
use Rattle.bag_facts.specs.Stops.{MayRefuseFacts}
use Rattle.bag_tree.specs.Bag.{has_folder}
use Rattle.bag_tree.specs.Tree.{CameFromFile, Keeps, MayReportMemory, TreeState}
use Rattle.bag_tree.specs.declared.tree_fault.Stop.{Stop}
use Rattle.bag_tree.specs.declared.tree_fault.TreeFault.TheVariants.{Memory}
use Rattle.bag_changes.specs.declared.fault.RenewFault.{RenewFault}
use Rattle.bag_changes.specs.declared.fault.RenewFault.TheVariants as why

-- the tree keeps its bag, and it listed nothing and opened no file
pub record OpensNothing (old new : TreeState) : Type 0 where
  pub keeps : Keeps old new
  pub openings : new.openings ≡ old.openings
  pub listed : new.listed ≡ old.listed
  pub gave : new.gave ≡ old.gave

-- A look for a folder of one of these names was refused, as the tree answered, and the stop names
-- it.
pub record IsRefusedLook (names : List Name) (old new : TreeState) (stop : Stop) : Type 0 where
  pub named : Contains names stop.path
  pub cause : MayRefuseFacts old new stop.cause
  pub not_memory : stop.cause ≢ Memory
  pub answered : CameFromFile new stop.cause

-- A folder has one of these names, in an honest tree; or a look for one was refused, or memory ran
-- out.
abbrev pub IsHinderedBy : List Name → TreeState → TreeState → RenewFault → Type 0
IsHinderedBy names old new (why.InTheWay name) =
    Contains names name × (IsTrue old.honest → has_folder old.bag name ≡ true)
IsHinderedBy names old new (why.ReadStopped stop) = IsRefusedLook names old new stop
IsHinderedBy names old new why.Memory = MayReportMemory old new
IsHinderedBy names old new fault = ⊥
