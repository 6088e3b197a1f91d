-- What is known of the system's disk.
use Rattle.std.specs.Prelude.{ℕ, Bool, false, List, [], Option, Some, None, if◌then◌else◌, is_some}
use Rattle.std.specs.FinMap as map
use Rattle.bag_disk.specs.Disk.{DiskState}
use Rattle.bag_disk.specs.Failures.{failures_counted}
use Rattle.bag_system.specs.declared.system_disk.SystemDisk.{SystemDisk}

-- the path of the base folder
abbrev pub base_of : {R F D : Type 0} → SystemDisk R F D → List ℕ
base_of disk = disk.base.path

-- the folders that the system said it synced, one after another, each with a byte of zero after it
abbrev pub synced_by : {R F D : Type 0} → SystemDisk R F D → List ℕ
synced_by disk = disk.synced.heard.bytes

-- Nothing is promised of what the system's disk holds: it isn't honest. What was opened, whether a
-- file is open and how often the device has refused is known. It notes nothing of what its device
-- does.
abbrev pub system_state : List (List ℕ) → Bool → ℕ → DiskState
system_state openings opened failures = record {
  nodes = map.empty;
  honest = false;
  openings = openings;
  rest = if opened then Some [] else None;
  names = [];
  failures = failures;
  trail = [];
  noted = false;
}

-- what the system's disk means
abbrev pub state_of_system : {R F D : Type 0} → SystemDisk R F D → DiskState
state_of_system disk =
    system_state disk.openings (is_some disk.opened) (failures_counted disk.refusals.failures)

-- whether a file is being written is known, and not which
abbrev pub written_state : Bool → Option (List ℕ)
written_state writing = if writing then Some [] else None
