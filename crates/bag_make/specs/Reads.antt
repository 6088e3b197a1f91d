-- What reading the folder promises, before a step is taken.
use Rattle.std.specs.Prelude.{◌≡◌, true, IsTrue}
use Rattle.bag_tree.specs.Tree.{TreeState}
use Rattle.bag_tree.specs.declared.tree_fault.Stop.{Stop}
use Rattle.bag_tree.specs.declared.tree_fault.TreeFault.TheVariants as cause_of
use Rattle.bag_make.specs.Plan.{is_in_the_way}
use Rattle.bag_make.specs.Stops.{MayStopMaking}
use Rattle.bag_make.specs.declared.fault.MakeFault.{MakeFault}
use Rattle.bag_make.specs.declared.fault.MakeFault.TheVariants.{InTheWay, ReadStopped, Memory}
use Rattle.bag_make.specs.Reading.{HasOnlyListed, LackedMemory}

-- the refusal that a stop is
abbrev pub IsRefusalOfStop : Stop → MakeFault → Type 0
IsRefusalOfStop stop Memory = stop.cause ≡ cause_of.Memory
IsRefusalOfStop stop (ReadStopped other) = (other ≡ stop) × ¬ (stop.cause ≡ cause_of.Memory)
IsRefusalOfStop stop fault = ⊥

-- why nothing is planned
abbrev pub MayRefuseReading : TreeState → TreeState → MakeFault → Type 0
MayRefuseReading old new InTheWay =
    HasOnlyListed old new × (IsTrue old.honest → is_in_the_way old.bag ≡ true)
MayRefuseReading old new (ReadStopped stop) = MayStopMaking old new stop
MayRefuseReading old new Memory = LackedMemory old new
MayRefuseReading old new fault = ⊥
