-- A bag that has no fault.
use Rattle.std.specs.Prelude.{[], None, false}
use Rattle.bag_tree.specs.Bag.{Bag}
use Rattle.bag_faults.specs.declared.fault.Fault.{Fault}
use Rattle.bag_faults.specs.declared.options.Depth.TheVariants.{Full}
use Rattle.bag_faults.specs.declared.options.Options.{Options}
use Rattle.bag_report.specs.Report.{IsReport, IsReported}

-- everything is checked, but for names that clash
abbrev pub full : Options
full = record { depth = Full; clashes = false }

-- a fault of the bag, checked in full, but for names that clash
abbrev pub IsFaultOf : Bag → Fault → Type 0
IsFaultOf bag f = IsReported (record { bag = bag; profile = None; options = full }) f

-- checked so, the bag has no fault
abbrev pub HasNoFault : Bag → Type 0
HasNoFault bag = IsReport (record { bag = bag; profile = None; options = full }) []
