-- Resuming a report at a cursor.
use Rattle.std.specs.Prelude.{ℕ, ◌+◌, ◌≡◌, ◌++◌, List, Some, slice_get}
use Rattle.std.specs.List.Sorted.{IsStrictlySortedBy}
use Rattle.bag_faults.specs.FaultOrder.{fault_cmp}
use Rattle.bag_faults.specs.declared.fault.Fault.{Fault}
use Rattle.bag_report.specs.Report.{above, first}

-- the law of resuming: a list is what stands up to a fault of it, and what is above that fault
abbrev pub CursorCutsList : Type 0
CursorCutsList =
    (faults : List Fault) (n : ℕ) (f : Fault)
    → IsStrictlySortedBy fault_cmp faults → slice_get faults n ≡ Some f
    → first (n + 1) faults ++ above (Some f) faults ≡ faults
