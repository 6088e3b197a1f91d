-- When a tree in memory refuses a change.
use Rattle.std.specs.Prelude.{⊤}
use Rattle.bag_tree.specs.declared.tree_fault.TreeFault.{TreeFault}
use Rattle.bag_tree.specs.declared.tree_fault.TreeFault.TheVariants.{NotFound, Memory, Exists}

-- A change is refused where its source is absent, where its target is there, or when out of memory.
abbrev pub IsChangeFault : Type 0 → Type 0 → TreeFault → Type 0
IsChangeFault absent taken NotFound = absent
IsChangeFault absent taken Exists = taken
IsChangeFault absent taken Memory = ⊤
IsChangeFault absent taken fault = ⊥
