-- Which line is a fault's.
use Rattle.std.specs.Prelude.{◌^◌, ◌<◌, ◌≡◌, IsUtf8}
use Rattle.bag_text.specs.Bytes.{Line}
use Rattle.bag_faults.specs.declared.fault.Fault.{Fault}
use Rattle.bag_faults.specs.FaultLine.{fault_line}

-- what every fault of the program is: its texts are UTF-8, and its line fits 64 bits
pub record IsFault (f : Fault) : Type 0 where
  pub path : IsUtf8 f.path
  pub detail : IsUtf8 f.detail
  pub line : f.line < 2 ^ 64

-- the text is the line of this fault
pub record IsLineOf (line : Line) (f : Fault) : Type 0 where
  pub fault : IsFault f
  pub text : fault_line f ≡ line
