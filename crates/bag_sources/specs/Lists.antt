-- Two lists of faults, one after the other.
use Rattle.std.proofs.Common.{◌≡◌, ◌++◌, ◌∷◌, Bool, true, false, List, [], Option, None, Some}
use Rattle.std.specs.Prelude.{if◌then◌else◌}
use Rattle.std.specs.List.Sorted.{IsStrictlySortedBy}
use Rattle.bag_text.proofs.ListOf.{ascending_joined}
use Rattle.bag_faults.specs.FaultOrder.{fault_cmp}
use Rattle.bag_faults.specs.declared.fault.Fault.{Fault}
use Rattle.bag_sources.specs.Filling.{first_of, AllBelow, Where}

pub first_of_both : (in_first : Bool) (a b : Option Fault) (fs gs : List Fault) (f : Fault)
    (IsOf Behind : Type 0)
    → (IsOf → a ≡ Some f → first_of fs ≡ Some f) → (b ≡ Some f → first_of gs ≡ Some f)
    → Where in_first (IsOf × AllBelow fs gs × Behind)
    → (if in_first then a else b) ≡ Some f → first_of ((if in_first then fs else []) ++ gs) ≡ Some f
first_of_both true a b [] gs f IsOf Behind p q h e = let none : None ≡ Some f = p h.0 e in cc
first_of_both true a b (x ∷ fs) gs f IsOf Behind p q h e = p h.0 e
first_of_both false a b fs gs f IsOf Behind p q h e = q e

pub front_ascends : (in_first : Bool) (fs gs : List Fault) (IsOf Behind : Type 0)
    → (IsOf → IsStrictlySortedBy fault_cmp fs) → IsStrictlySortedBy fault_cmp gs
    → Where in_first (IsOf × AllBelow fs gs × Behind)
    → IsStrictlySortedBy fault_cmp ((if in_first then fs else []) ++ gs)
front_ascends true fs gs IsOf Behind p q h = ascending_joined fault_cmp fs gs (p h.0) q h.1
front_ascends false fs gs IsOf Behind p q h = q
