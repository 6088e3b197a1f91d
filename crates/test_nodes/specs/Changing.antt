-- When a disk in memory refuses a change.
use Rattle.std.specs.Prelude.{ℕ, ◌≡◌, ◌⊎◌, List, Option, None, Some, ⊤}
use Rattle.bag_disk.specs.Disk.{Nodes, bytes_of}
use Rattle.bag_disk.specs.DiskNodes.{Has, IsDisk, IsFolder, IsReachedByFolders, node}
use Rattle.bag_tree.specs.Moved.{moved}
use Rattle.bag_disk.specs.declared.disk.DiskFault.{DiskFault}
use Rattle.bag_disk.specs.declared.disk.DiskFault.TheVariants.{NotFound, Exists, Name, Memory}
use Rattle.bag_disk.specs.declared.disk.DiskFault.TheVariants.{Device}

-- Something new isn't made at a path where its folder isn't there, where something stands, or when
-- out of memory.
abbrev pub MayRefuseAdding : Nodes → List ℕ → DiskFault → Type 0
MayRefuseAdding nodes path NotFound = ¬ (IsReachedByFolders nodes path)
MayRefuseAdding nodes path Exists = Has nodes path
MayRefuseAdding nodes path Name = ⊥
MayRefuseAdding nodes path Memory = ⊤
MayRefuseAdding nodes path Device = ⊥

-- Nothing is moved where nothing stands, where the folder to move to isn't there, where something
-- stands, where that can't stand on a disk, as a folder below itself, or when out of memory.
abbrev pub MayRefuseMoving : Nodes → List ℕ → List ℕ → DiskFault → Type 0
MayRefuseMoving nodes from to NotFound = (node nodes from ≡ None) ⊎ ¬ (IsReachedByFolders nodes to)
MayRefuseMoving nodes from to Exists = Has nodes to
MayRefuseMoving nodes from to Name = ⊥
MayRefuseMoving nodes from to Memory = ⊤
MayRefuseMoving nodes from to Device = ¬ (IsDisk (moved from to nodes))

-- Nothing is written where no file stands that is being written, or when out of memory.
abbrev pub MayRefuseWriting : Nodes → Option (List ℕ) → DiskFault → Type 0
MayRefuseWriting nodes written NotFound = ⊥
MayRefuseWriting nodes written Exists = ⊥
MayRefuseWriting nodes written Name = ⊥
MayRefuseWriting nodes written Memory = ⊤
MayRefuseWriting nodes written Device = (path : List ℕ) → written ≡ Some path
    → bytes_of (node nodes path) ≡ None

-- Nothing is synced where no file is being written, or out of memory.
abbrev pub MayRefuseSync : Option (List ℕ) → DiskFault → Type 0
MayRefuseSync written NotFound = ⊥
MayRefuseSync written Exists = ⊥
MayRefuseSync written Name = ⊥
MayRefuseSync written Memory = ⊤
MayRefuseSync written Device = written ≡ None

-- No folder is synced that isn't there, or out of memory.
abbrev pub MayRefuseSyncFolder : Nodes → List ℕ → DiskFault → Type 0
MayRefuseSyncFolder nodes folder NotFound = ¬ (IsFolder nodes folder)
MayRefuseSyncFolder nodes folder Exists = ⊥
MayRefuseSyncFolder nodes folder Name = ⊥
MayRefuseSyncFolder nodes folder Memory = ⊤
MayRefuseSyncFolder nodes folder Device = ⊥
