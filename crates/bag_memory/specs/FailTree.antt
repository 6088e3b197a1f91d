-- A tree of which one call is refused.
use Rattle.std.specs.Prelude.{◌≡◌, true, false, Result, IsErrOf}
use Rattle.bag_tree.specs.declared.tree_fault.TreeFault.{TreeFault}
use Rattle.bag_tree.specs.declared.tree_fault.TreeFault.TheVariants.{Device}
use Rattle.bag_memory.specs.Refusals.{is_kth}
use Rattle.bag_memory.specs.declared.calls.Calls.{Calls}
use Rattle.bag_memory.specs.declared.fail_tree.FailTree.{FailTree}

-- the tree that it stands over
abbrev pub below_of : {T : Type 0} → FailTree T → T
below_of tree = tree.tree

-- which call of it is refused
abbrev pub calls_of : {T : Type 0} → FailTree T → Calls
calls_of tree = tree.calls

-- the call that is to be refused is refused, and the tree below stays as it was
abbrev pub RefusesKth : {T A : Type 0} → FailTree T → FailTree T → Result A TreeFault → Type 0
RefusesKth old new result =
    is_kth (calls_of old).due ≡ true → IsErrOf result Device × (below_of new ≡ below_of old)

-- so it is of each other call
abbrev pub IfNotKth : {T : Type 0} → FailTree T → Type 0 → Type 0
IfNotKth old IsSo = is_kth (calls_of old).due ≡ false → IsSo
