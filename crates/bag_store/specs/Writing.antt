-- What was written to a file.
use Rattle.std.specs.Prelude.{ℕ, ◌≡◌, ◌⊎◌, Bool, true, false, IsTrue, List, Option, None, Some}
use Rattle.std.specs.Prelude.{take}
use Rattle.bag_disk.specs.Disk.{DiskState, Node, Nodes, is_folder_node}
use Rattle.bag_disk.specs.Disk.Node.{File, Folder, Other}
use Rattle.bag_disk.specs.DiskNodes.{OnlyLooks, OnlySyncs, node}
use Rattle.bag_disk.specs.ReplaceDisk.{without_node}
use Rattle.bag_disk.specs.WritableDisk.{Appends, ClosesOpenFile, HasFileNode, with_file_node}

-- these bytes were put after those of the file that is being written, and nothing was opened
pub record HasWritten (old new : DiskState) (written : Option (List ℕ)) (bytes : List ℕ) : Type 0
  where
    pub honest : new.honest ≡ old.honest
    pub openings : new.openings ≡ old.openings
    pub rest : old.rest ≡ None → new.rest ≡ None
    pub noted : new.noted ≡ old.noted
    pub nodes : IsTrue old.honest → (path : List ℕ) → written ≡ Some path
        → HasFileNode old.nodes path
        → Appends old.nodes new.nodes path bytes

-- the same of some first bytes
pub record HasWrittenSome (old new : DiskState) (written : Option (List ℕ)) (bytes : List ℕ) : Type
    0 where
  pub count : ℕ
  pub first : HasWritten old new written (take count bytes)

-- a file of these bytes was made where nothing stood
pub record MakesFileOf (old new : Nodes) (name bytes : List ℕ) : Type 0 where
  pub free : node old name ≡ None
  pub made : new ≡ with_file_node old name bytes

pub record Makes (old new : DiskState) (name bytes : List ℕ) : Type 0 where
  pub closed : ClosesOpenFile old new
  pub file : IsTrue old.honest → MakesFileOf old.nodes new.nodes name bytes

-- a file of some first bytes was made
pub record Begins (old new : DiskState) (name bytes : List ℕ) : Type 0 where
  pub count : ℕ
  pub first : Makes old new name (take count bytes)

-- a file of these bytes stands at a name, in place of any other: it was made at a name beside, at
-- which nothing stood, and no folder had its own
pub record PutsFile (old new : Nodes) (beside name bytes : List ℕ) : Type 0 where
  pub free : node old beside ≡ None
  pub no_folder : is_folder_node (node old name) ≡ false
  pub put : new ≡ with_file_node old name bytes

pub record Puts (old new : DiskState) (beside name bytes : List ℕ) : Type 0 where
  pub closed : ClosesOpenFile old new
  pub file : IsTrue old.honest → PutsFile old.nodes new.nodes beside name bytes

-- nothing was changed, though there may have been a sync, or a file was begun beside, or the file
-- was put
abbrev pub LeavesPut : DiskState → DiskState → List ℕ → List ℕ → List ℕ → Type 0
LeavesPut old new beside name bytes =
    OnlySyncs old new ⊎ Begins old new beside bytes ⊎ Puts old new beside name bytes

-- nothing stands there, or a regular file
abbrev pub is_none_or_file : Option Node → Bool
is_none_or_file None = true
is_none_or_file (Some (File bytes)) = true
is_none_or_file (Some Folder) = false
is_none_or_file (Some Other) = false

-- where something that is no file has the name, on an honest disk, the disk was only looked at
abbrev pub LooksFirst : DiskState → DiskState → List ℕ → Type 0
LooksFirst old new name =
    IsTrue old.honest → is_none_or_file (node old.nodes name) ≡ false → OnlyLooks old new

-- a file was removed
pub record RemovesIt (old new : DiskState) (name : List ℕ) : Type 0 where
  pub closed : ClosesOpenFile old new
  pub was : IsTrue old.honest → HasFileNode old.nodes name
  pub removed : IsTrue old.honest → new.nodes ≡ without_node old.nodes name
