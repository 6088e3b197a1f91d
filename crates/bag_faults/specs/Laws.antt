-- Laws about faults, their order and their lines.
use Rattle.std.specs.Prelude.{◌≡◌, ◌⊎◌, ◌↔◌, IsTrue, List, Contains}
use Rattle.std.specs.declared.cmp.Ordering.TheVariants.{Less}
use Rattle.std.specs.Ordering.{eq_by_cmp}
use Rattle.std.specs.Cmp.{IsTotalOrder}
use Rattle.std.specs.FinMap.{IsAntisymmetric}
use Rattle.std.specs.List.Sorted.{IsStrictlySortedBy}
use Rattle.bag_faults.specs.declared.fault.Fault.{Fault}
use Rattle.bag_faults.specs.LineOf.{IsFault}
use Rattle.bag_faults.specs.FaultOrder.{fault_cmp}
use Rattle.bag_faults.specs.FaultLine.{fault_line}

-- the law: different faults have different lines
abbrev pub LinesTellFaultsApart : Type 0
LinesTellFaultsApart = (f g : Fault) → IsFault f → IsFault g → fault_line f ≡ fault_line g → f ≡ g

-- the law: an ascending list of faults is determined by its members
abbrev pub AscendingFaultsAreOne : Type 0
AscendingFaultsAreOne =
    (xs ys : List Fault) → IsStrictlySortedBy fault_cmp xs → IsStrictlySortedBy fault_cmp ys
    → ((f : Fault) → Contains xs f ↔ Contains ys f) → xs ≡ ys

-- the law: `==` holds of a fault and itself alone
abbrev pub EqualFaultsAreOne : Type 0
EqualFaultsAreOne = (f g : Fault) → IsTrue (eq_by_cmp fault_cmp f g) ↔ (f ≡ g)

-- one of three facts holds, and no two of them do
abbrev pub OneOfThree : Type 0 → Type 0 → Type 0 → Type 0
OneOfThree A B C = (A ⊎ (B ⊎ C)) × (¬ (A × B)) × (¬ (A × C)) × (¬ (B × C))

-- the law: of two faults one is less, or they are one fault, and only one of these holds
abbrev pub OneOfThreeHolds : Type 0
OneOfThreeHolds = (f g : Fault) → OneOfThree (fault_cmp f g ≡ Less) (f ≡ g) (fault_cmp g f ≡ Less)

-- the law: the order is total, and faults that tie are one fault
abbrev pub FaultsAreOrdered : Type 0
FaultsAreOrdered = IsTotalOrder fault_cmp × IsAntisymmetric fault_cmp
