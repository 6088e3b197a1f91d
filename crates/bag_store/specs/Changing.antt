-- When an honest disk is in the way of a step, and what a step makes of it.
use Rattle.std.specs.Prelude.{ℕ, ◌≡◌, ◌⊎◌, true, IsTrue, List, None, Some}
use Rattle.bag_disk.specs.Disk.{DiskState, Nodes}
use Rattle.bag_disk.specs.DiskNodes.{node}
use Rattle.bag_disk.specs.Disk.Node.{Folder}
use Rattle.bag_disk.specs.WritableDisk.{Moves}
use Rattle.bag_disk.specs.DiskBag.{bag_of}
use Rattle.bag_text.specs.Path.{under}
use Rattle.bag_tree.specs.Bag.{LacksFile, has_folder}
use Rattle.bag_tree.specs.Steps.{has_within, is_taken, lacks_folder, lacks_source}

-- a file or a folder of the base folder has this name
abbrev pub IsNameTaken : DiskState → List ℕ → Type 0
IsNameTaken disk name = IsTrue disk.honest → is_taken (bag_of disk.nodes) name ≡ true

-- something has the name beside, or a folder has the name
abbrev pub IsPlaceTaken : DiskState → List ℕ → List ℕ → Type 0
IsPlaceTaken disk beside name = IsTrue disk.honest
    → (is_taken (bag_of disk.nodes) beside ≡ true) ⊎ (has_folder (bag_of disk.nodes) name ≡ true)

-- there is no such file
abbrev pub LacksFileThere : DiskState → List ℕ → Type 0
LacksFileThere disk name = IsTrue disk.honest → LacksFile (bag_of disk.nodes) name

-- what is to be moved isn't there, or the folder for it isn't
abbrev pub LacksSource : DiskState → List ℕ → List ℕ → Type 0
LacksSource disk top folder = IsTrue disk.honest
    → lacks_source (bag_of disk.nodes) top folder ≡ true

-- there is no such folder
abbrev pub LacksFolder : DiskState → List ℕ → Type 0
LacksFolder disk name = IsTrue disk.honest → lacks_folder (bag_of disk.nodes) name ≡ true

-- a file stands where something is to be moved to, or below it
abbrev pub HasTarget : DiskState → List ℕ → List ℕ → Type 0
HasTarget disk top folder = IsTrue disk.honest
    → has_within (bag_of disk.nodes) (under folder top) ≡ true

-- a folder stands where something is to be moved to
abbrev pub HasFolderInTheWay : DiskState → List ℕ → List ℕ → Type 0
HasFolderInTheWay disk top folder = IsTrue disk.honest
    → node disk.nodes (under folder top) ≡ Some Folder

-- of an honest disk, what had a name was moved into a folder that is there, where nothing stood
pub record MovesInto (old new : Nodes) (top folder : List ℕ) : Type 0 where
  pub folder_is : node old folder ≡ Some Folder
  pub source : is_taken (bag_of old) top ≡ true
  pub free : node old (under folder top) ≡ None
  pub moved : Moves old new top (under folder top)

abbrev pub IsMovedIn : DiskState → DiskState → List ℕ → List ℕ → Type 0
IsMovedIn old new top folder = IsTrue old.honest → MovesInto old.nodes new.nodes top folder

-- a folder that is there was given another name, which nothing had
pub record Renames (old new : Nodes) (from to : List ℕ) : Type 0 where
  pub folder_is : node old from ≡ Some Folder
  pub free : node old to ≡ None
  pub moved : Moves old new from to

abbrev pub IsRenamed : DiskState → DiskState → List ℕ → List ℕ → Type 0
IsRenamed old new from to = IsTrue old.honest → Renames old.nodes new.nodes from to
