-- What opening a file of a disk answers.
use Rattle.std.specs.Prelude.{ℕ, ◌≡◌, IsTrue, List, None, Some}
use Rattle.bag_tree.specs.Bag.{file}
use Rattle.bag_tree.specs.FileReads.{IsOpen}
use Rattle.bag_disk.specs.Disk.{DiskState}
use Rattle.bag_disk.specs.DiskNodes.{HasSpecial, WhereReached, node}
use Rattle.bag_disk.specs.Disk.Node.{Folder}
use Rattle.bag_disk.specs.DiskBag.{bag_of}
use Rattle.bag_disk.specs.Refusal.{IsDue, MeetsSpecial}
use Rattle.bag_disk.specs.declared.refusal.Refusal.{Refusal}

-- the bag's file at the path is open, where the disk is honest
abbrev pub OpensFileOfBag : DiskState → DiskState → List ℕ → Type 0
OpensFileOfBag old new path = IsTrue old.honest → IsOpen (file (bag_of old.nodes) path) new.rest

-- the disk may refuse to open a file so: over something that is no file and no folder, or since
-- the bag has no such file
abbrev pub MayRefuseOpening : DiskState → List ℕ → Refusal → Type 0
MayRefuseOpening disk path =
    IsDue (MeetsSpecial disk) ⊥ (IsTrue disk.honest → file (bag_of disk.nodes) path ≡ None) ⊥

-- or so, since nothing stands at the path
abbrev pub MayRefuseWay : DiskState → List ℕ → Refusal → Type 0
MayRefuseWay disk path =
    IsDue (MeetsSpecial disk) ⊥ (IsTrue disk.honest → node disk.nodes path ≡ None) ⊥

-- a folder stands at the path
abbrev pub HasFolderAt : DiskState → List ℕ → Type 0
HasFolderAt disk path = WhereReached disk path (node disk.nodes path ≡ Some Folder)

-- the disk may refuse so what is no folder
abbrev pub MayRefuseAsFolder : DiskState → List ℕ → Refusal → Type 0
MayRefuseAsFolder disk path = IsDue
    (WhereReached disk path (HasSpecial disk.nodes))
    ⊥
    (WhereReached disk path (node disk.nodes path ≡ Some Folder → ⊥))
    ⊥
