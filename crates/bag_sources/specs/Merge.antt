-- Two lists of faults as one.
use Rattle.std.proofs.Common.{◌∙◌, ap}
use Rattle.std.specs.Prelude.{ℕ, Bool, true, false, List, [], ◌≡◌, ◌++◌, Contains}
use Rattle.std.specs.Prelude.{Option, None, Some, if◌then◌else◌}
use Rattle.std.specs.Ordering.{is_gt}
use Rattle.std.specs.declared.cmp.Ordering.{Ordering}
use Rattle.std.specs.declared.cmp.Ordering.TheVariants.{Less, Equal, Greater}
use Rattle.bag_text.specs.Order.{IsListOf}
use Rattle.bag_faults.specs.FaultOrder.{fault_cmp}
use Rattle.bag_faults.specs.declared.fault.Fault.{Fault}
use Rattle.bag_faults.proofs.Ordered.{fault_cmp_same, fault_cmp_total}
use Rattle.bag_report.proofs.AscendingList.{ascending_list}

-- the ascending list of the members of two lists
pub union : List Fault → List Fault → List Fault
union faults others = (ascending_list fault_cmp fault_cmp_total fault_cmp_same (faults ++ others)).0

pub union_is : (faults others : List Fault)
    → IsListOf fault_cmp (Contains (faults ++ others)) (union faults others)
unfolding union
union_is faults others =
    (ascending_list fault_cmp fault_cmp_total fault_cmp_same (faults ++ others)).1

-- which of two faults comes first: one that is there before one that isn't
abbrev pub fronts : Option Fault → Option Fault → Ordering
fronts (Some f) (Some g) = fault_cmp f g
fronts (Some f) None = Less
fronts None (Some g) = Greater
fronts None None = Equal

-- the lesser of two faults, where they are there
abbrev pub least_of : Option Fault → Option Fault → Option Fault
least_of one other = if is_gt (fronts one other) then other else one

-- where neither has a file to open, both together have none
pub nothing_to_open : (turned : Bool) (xs ys : List (List ℕ)) → xs ≡ [] → ys ≡ []
    → (if turned then ys ++ xs else xs ++ ys) ≡ []
nothing_to_open true xs ys e f = ap (λ l. l ++ xs) f ∙ e
nothing_to_open false xs ys e f = ap (λ l. l ++ ys) e ∙ f
