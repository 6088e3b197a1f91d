-- What the tree below leaves of a call that isn't refused.
use Rattle.bag_memory.proofs.Common.{◌≡◌, ◌⊎◌, ℕ, List, zero, false, Result, Ok, Err, OnErr, refl, arith, TreeState}
use Rattle.bag_memory.proofs.Common.{LeavesPartialFile, IsUnchanged, after_call, failing, is_kth, next_due}
use Rattle.bag_memory.proofs.Common.{refused_calls, After}
use Rattle.bag_tree.specs.declared.tree_fault.TreeFault.{TreeFault}
use Rattle.bag_memory.specs.declared.calls.Calls.{Calls}
use Rattle.bag_memory.specs.declared.calls.Due.{Due}

none_more : (due : Due) → is_kth due ≡ false → refused_calls (next_due due) ≡ refused_calls due
none_more (After zero) e = cc
none_more _ e = refl

left_above : (name bytes : List ℕ) (old new : TreeState) (calls : Calls) → is_kth calls.due ≡ false
    → IsUnchanged old new ⊎ LeavesPartialFile name bytes old new
    → IsUnchanged (failing old calls) (failing new (after_call calls))
    ⊎ LeavesPartialFile name bytes (failing old calls) (failing new (after_call calls))
left_above name bytes old new calls passes left = grind (arith, none_more)

-- what a refused `create` left below
pub begun_above : (name bytes : List ℕ) (old new : TreeState) (calls : Calls) (answer : Result (Unit {0}) TreeFault)
    → is_kth calls.due ≡ false
    → OnErr answer (IsUnchanged old new ⊎ LeavesPartialFile name bytes old new)
    → OnErr answer (IsUnchanged (failing old calls) (failing new (after_call calls))
    ⊎ LeavesPartialFile name bytes (failing old calls) (failing new (after_call calls)))
begun_above name bytes old new calls (Ok u) passes left = tt
begun_above name bytes old new calls (Err fault) passes left = left_above name bytes old new calls passes left
