-- What a look at a path finds.
use Rattle.std.specs.Prelude.{ℕ, ◌≡◌, List, Option, Some, None}
use Rattle.bag_disk.specs.Disk.{Nodes}
use Rattle.bag_disk.specs.DiskNodes.{node}
use Rattle.bag_disk.specs.Disk.Node.{Folder as FolderNode}
use Rattle.bag_disk.specs.WritableDisk.{HasFileNode}
use Rattle.bag_store.specs.declared.standing.Standing.{Standing}
use Rattle.bag_store.specs.declared.standing.Standing.TheVariants.{File, Folder}

-- this stands at a path, where None is nothing
abbrev pub IsStanding : Nodes → List ℕ → Option Standing → Type 0
IsStanding nodes path None = node nodes path ≡ None
IsStanding nodes path (Some File) = HasFileNode nodes path
IsStanding nodes path (Some Folder) = node nodes path ≡ Some FolderNode
