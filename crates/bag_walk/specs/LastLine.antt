-- The line that was written last.
use Rattle.std.specs.Prelude.{zero, suc, ℕ, ◌≡◌, List, [], Option, None, Some, slice_get}
use Rattle.bag_faults.specs.LineOf.{IsFault}
use Rattle.bag_faults.specs.declared.fault.Fault.{Fault}
use Rattle.bag_walk.specs.Ending.{written_line}

-- the last of the first n faults, from which a segment goes on: none where there is none yet
abbrev pub cursor_after : ℕ → List Fault → Option Fault
cursor_after zero report = None
cursor_after (suc n) report = slice_get report n

-- it is this fault's line, or nothing where there is none
abbrev pub IsLastLine : Option Fault → List ℕ → Type 0
IsLastLine None line = line ≡ []
IsLastLine (Some f) line = IsFault f × (line ≡ written_line f)

-- it is the line of the last of the first n faults, or the same as before where n is 0
abbrev pub IsLastOf : List Fault → ℕ → List ℕ → List ℕ → Type 0
IsLastOf faults zero old new = new ≡ old
IsLastOf faults (suc n) old new =
    (f : Fault) × (slice_get faults n ≡ Some f) × IsLastLine (Some f) new
