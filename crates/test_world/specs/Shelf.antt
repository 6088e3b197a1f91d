-- What is claimed of the disks of a shelf.
use Rattle.std.specs.Prelude.{ℕ, List, [], Option, Some, None, String}
use Rattle.std.specs.BTreeMap.{BTreeMap, get_by_text}
use Rattle.std.specs.declared.alloc.Global.{Global}
use Rattle.bag_disk.specs.Disk.{DiskState, Nodes}
use Rattle.test_nodes.specs.Held.{nodes_of}
use Rattle.test_disk.specs.MemoryDisk.{fresh, not_honest, state_of}
use Rattle.test_disk.specs.declared.memory_disk.MemoryDisk.{MemoryDisk}

-- what stands on a disk, where there is one
abbrev pub nodes_on : Option MemoryDisk → Nodes
nodes_on None = nodes_of []
nodes_on (Some disk) = (state_of disk).nodes

-- the disk of a folder, of which nothing was opened yet
abbrev pub disk_at : BTreeMap (String Global) MemoryDisk → List ℕ → DiskState
disk_at disks folder = fresh (nodes_on (get_by_text disks folder))

-- the same, where it isn't claimed that what is read is what stands there
abbrev pub unclaimed : BTreeMap (String Global) MemoryDisk → List ℕ → DiskState
unclaimed disks folder = not_honest (disk_at disks folder)
