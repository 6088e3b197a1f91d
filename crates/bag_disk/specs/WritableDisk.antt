-- What the calls that change a disk make of what stands there.
use Rattle.std.specs.Prelude.{ℕ, ◌≡◌, IsTrue, List, [], ◌∷◌, ◌++◌, Option, None, Some, is_some}
use Rattle.std.specs.Prelude.{true}
use Rattle.std.specs.FinMap as map
use Rattle.bag_tree.specs.declared.event.DeviceEvent.{DeviceEvent}
use Rattle.bag_tree.specs.Moved.{moved}
use Rattle.bag_tree.specs.MovesAll.{KeepsOthers, MovesAll}
use Rattle.bag_disk.specs.Disk.{DiskState, Nodes, bytes_of}
use Rattle.bag_disk.specs.DiskNodes.{node, Has, IsDisk, IsFileWith, IsFolder, IsReachedByFolders}
use Rattle.bag_disk.specs.DiskNodes.{WhereReached}
use Rattle.bag_disk.specs.Disk.Node.{File, Folder}

-- what stands there, with a folder at the path
abbrev pub with_folder_node : Nodes → List ℕ → Nodes
with_folder_node nodes path = map.insert nodes path Folder

-- what stands there, with a file of these bytes at the path
abbrev pub with_file_node : Nodes → List ℕ → List ℕ → Nodes
with_file_node nodes path bytes = map.insert nodes path (File bytes)

-- the law: what stood at a path is moved with all that is below it, where nothing stood at the new
-- one
abbrev pub MovedNodesAreThere : Type 0
MovedNodesAreThere =
    (nodes : Nodes) (from to : List ℕ) → IsDisk nodes → node nodes to ≡ None
    → MovesAll nodes (moved from to nodes) from to

-- a folder was made where nothing stood
pub record MakesFolderNode (old new : Nodes) (path : List ℕ) : Type 0 where
  pub free : node old path ≡ None
  pub made : new ≡ with_folder_node old path

-- an empty file was made where nothing stood
pub record MakesFile (old new : Nodes) (path : List ℕ) : Type 0 where
  pub free : node old path ≡ None
  pub made : new ≡ with_file_node old path []

-- where the disk is honest and the path is reached, a folder was made, and nothing stood there
abbrev pub AddsFolder : DiskState → DiskState → List ℕ → Type 0
AddsFolder old new path = WhereReached old path (MakesFolderNode old.nodes new.nodes path)

-- so an empty file was made
abbrev pub AddsFile : DiskState → DiskState → List ℕ → Type 0
AddsFile old new path = WhereReached old path (MakesFile old.nodes new.nodes path)

-- what stood at one path was moved to another, with all that is below it
pub record Moves (old new : Nodes) (from to : List ℕ) : Type 0 where
  pub there : Has old from
  pub moved : new ≡ moved from to old

-- where the disk is honest and both paths are reached, what stood at one was moved to the other, if
-- nothing stood there
abbrev pub MovesToFree : DiskState → DiskState → List ℕ → List ℕ → Type 0
MovesToFree old new from to =
    IsTrue old.honest → IsReachedByFolders old.nodes from → IsReachedByFolders old.nodes to
    → node old.nodes to ≡ None → Moves old.nodes new.nodes from to

-- so what is at or below neither of them stands as it did
abbrev pub MovesOnly : DiskState → DiskState → List ℕ → List ℕ → Type 0
MovesOnly old new from to =
    IsTrue old.honest → IsReachedByFolders old.nodes from → IsReachedByFolders old.nodes to
    → KeepsOthers old.nodes new.nodes from to

-- so nothing stands where something was to be moved from
abbrev pub HasNothingToMove : DiskState → List ℕ → List ℕ → Type 0
HasNothingToMove disk from to =
    IsTrue disk.honest → IsReachedByFolders disk.nodes from → IsReachedByFolders disk.nodes to
    → node disk.nodes from ≡ None

-- an honest disk has no such folder
abbrev pub HasNoFolder : DiskState → List ℕ → Type 0
HasNoFolder disk folder = IsTrue disk.honest → IsFolder disk.nodes folder → ⊥

-- a regular file stands there
abbrev pub HasFileNode : Nodes → List ℕ → Type 0
HasFileNode nodes path = is_some (bytes_of (node nodes path)) ≡ true

-- bytes were put after those of a file that is there
pub record Appends (old new : Nodes) (path bytes : List ℕ) : Type 0 where
  pub content : List ℕ
  pub was : IsFileWith old path content
  pub appended : new ≡ with_file_node old path (content ++ bytes)

-- where the disk is honest and has the file that is being written, bytes were put after its own
abbrev pub AppendsTo : Option (List ℕ) → DiskState → DiskState → List ℕ → Type 0
AppendsTo written old new bytes = IsTrue old.honest → (path : List ℕ) → written ≡ Some path
    → HasFileNode old.nodes path → Appends old.nodes new.nodes path bytes

-- a call closed the file that was open for reading, and left what was opened and the honesty
pub record ClosesOpenFile (old new : DiskState) : Type 0 where
  pub honest : new.honest ≡ old.honest
  pub openings : new.openings ≡ old.openings
  pub rest : new.rest ≡ None
  pub noted : new.noted ≡ old.noted

-- the device did this, and noted it
abbrev pub Notes : DeviceEvent → DiskState → DiskState → Type 0
Notes event old new = new.trail ≡ old.trail ++ event ∷ []
