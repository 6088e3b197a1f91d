-- The faults of names that differ by normal form alone, and what they leave.
use Rattle.std.specs.Prelude.{◌≡◌, ◌++◌, Bool, true, List, map}
use Rattle.std.specs.List.Sorted.{IsPermutation}
use Rattle.bag_text.specs.Bytes.{Path}
use Rattle.bag_text.specs.Order.{IsListOf}
use Rattle.bag_text.specs.Text.{text_cmp}
use Rattle.bag_text.specs.declared.code.Code.TheVariants.{NameClash}
use Rattle.bag_tree.specs.Bag.{Bag}
use Rattle.bag_faults.specs.FaultOrder.{fault_cmp}
use Rattle.bag_faults.specs.declared.fault.Fault.{Fault}
use Rattle.bag_stages.specs.Clashes.{IsLeast}
use Rattle.bag_stages.specs.CompletenessStage.{IsOfCompleteness, IsPayloadName}

-- a fault that a name isn't the least of its class
abbrev pub IsClashFault : Bag → Fault → Type 0
IsClashFault bag f = IsOfCompleteness bag f × (f.code ≡ NameClash)

-- such a fault where clashes are looked for
abbrev pub IsSoughtClash : Bool → Bag → Fault → Type 0
IsSoughtClash clashes bag f = IsClashFault bag f × (clashes ≡ true)

-- the law: the names of these faults and the least names of the classes are together all names,
-- none twice
abbrev pub ClashesAndLeastsAreAllNames : Type 0
ClashesAndLeastsAreAllNames =
    (bag : Bag) (names leasts : List Path) (faults : List Fault)
    → IsListOf text_cmp (IsPayloadName bag) names
    → IsListOf text_cmp (IsLeast (IsPayloadName bag)) leasts
    → IsListOf fault_cmp (IsClashFault bag) faults
    → IsPermutation (map (λ f. f.path) faults ++ leasts) names
