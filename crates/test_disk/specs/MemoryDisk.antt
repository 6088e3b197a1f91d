-- A disk in memory.
use Rattle.std.specs.Prelude.{ℕ, ◌≡◌, Bool, true, false, List, [], Option, Some, None, Result, Ok}
use Rattle.std.specs.Prelude.{Err, drop, bytes_eq, if◌then◌else◌, ⊤}
use Rattle.std.specs.List.{list_any}
use Rattle.std.specs.Option.{option_map}
use Rattle.bag_disk.specs.Disk.{DiskState, Nodes, Node, bytes_of}
use Rattle.bag_disk.specs.DiskNodes.{entry_of_node, node}
use Rattle.bag_disk.specs.Failures.{failures_counted}
use Rattle.bag_disk.specs.declared.disk.Entry.{Entry}
use Rattle.bag_disk.specs.declared.disk.DiskFault.{DiskFault}
use Rattle.bag_disk.specs.declared.disk.DiskFault.TheVariants.{NotFound, Exists, Name, Memory}
use Rattle.bag_disk.specs.declared.disk.DiskFault.TheVariants.{Device}
use Rattle.test_nodes.specs.Held.{nodes_of}
use Rattle.test_disk.specs.declared.memory_disk.MemoryDisk.{MemoryDisk}
use Rattle.test_disk.specs.declared.swap.Swap.{Swap}

-- an honest disk with nothing opened or entered, whose device did nothing yet
abbrev pub fresh : Nodes → DiskState
fresh nodes = record {
  nodes = nodes;
  honest = true;
  openings = [];
  rest = None;
  names = [];
  failures = 0;
  trail = [];
  noted = true;
}

-- the same, and no more honest
abbrev pub not_honest : DiskState → DiskState
not_honest state = record {
  nodes = state.nodes;
  honest = false;
  openings = state.openings;
  rest = state.rest;
  names = state.names;
  failures = state.failures;
  trail = state.trail;
  noted = state.noted;
}

-- nothing is swapped
abbrev pub is_as_listed : Option Swap → Bool
is_as_listed None = true
is_as_listed (Some swap) = false

-- what a disk in memory means
abbrev pub state_of : MemoryDisk → DiskState
state_of disk = record {
  nodes = nodes_of disk.nodes.entries;
  honest = is_as_listed disk.swap;
  openings = disk.openings;
  rest = option_map (drop disk.at) disk.open;
  names = drop disk.named disk.names;
  failures = failures_counted disk.failures;
  trail = disk.trail;
  noted = true;
}

-- the path of the file that is being written
abbrev pub written_of : MemoryDisk → Option (List ℕ)
written_of disk = disk.written

-- the folders that may not be read
abbrev pub barred_of : MemoryDisk → List (List ℕ)
barred_of disk = disk.barred

abbrev pub is_barred : MemoryDisk → List ℕ → Bool
is_barred disk folder = list_any (λ path. bytes_eq path folder) disk.barred

-- what is read in place of a file's bytes
abbrev pub bytes_with : Option Swap → List ℕ → List ℕ → List ℕ
bytes_with None path bytes = bytes
bytes_with (Some swap) path bytes = if bytes_eq swap.path path then swap.bytes.items else bytes

-- what a file holds when it is opened
abbrev pub content_of : MemoryDisk → List ℕ → Option (List ℕ)
content_of disk path =
    option_map (bytes_with disk.swap path) (bytes_of (node (nodes_of disk.nodes.entries) path))

-- what is answered of what stands at a path
abbrev pub IsEntry : Option Node → Result Entry DiskFault → Type 0
IsEntry None result = result ≡ Err NotFound
IsEntry (Some n) result = result ≡ Ok (entry_of_node n)

-- A call may be refused when out of memory, and for this reason.
abbrev pub MayRefuse : Type 0 → DiskFault → Type 0
MayRefuse reason Memory = ⊤
MayRefuse reason NotFound = reason
MayRefuse reason Exists = ⊥
MayRefuse reason Device = reason
MayRefuse reason Name = ⊥
