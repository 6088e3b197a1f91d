-- Faults of a tag file by their place.
use Rattle.std.specs.Prelude.{Option}
use Rattle.bag_text.specs.Bytes.{Path}
use Rattle.bag_text.specs.declared.alg.Alg.{Alg}
use Rattle.bag_read.specs.declared.line_fault.LineFault.{LineFault}
use Rattle.bag_faults.specs.FaultAt.{of_line}
use Rattle.bag_faults.specs.declared.fault.Fault.{Fault}

-- the fault of the file at a path, or of a line of it
abbrev pub in_file : Path → Option Alg → LineFault → Fault
in_file path alg f = of_line f.code path alg f.line f.detail
