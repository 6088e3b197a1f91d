-- What stands below a base folder of a disk.
use Rattle.std.specs.Prelude.{ℕ, Bool, true, false, List, filter, Option, Some, None}
use Rattle.std.specs.FinMap as map
use Rattle.std.specs.List.{list_all}
use Rattle.bag_text.specs.Text.{text_cmp}
use Rattle.bag_tree.specs.declared.event.DeviceEvent.{DeviceEvent}

-- what stands at a path: a regular file with its bytes, a folder, or something else, as a link, or
-- as what has a name that isn't UTF-8
pub data Node : Type 0 where
  File : List ℕ → Node
  Folder : Node
  Other : Node

abbrev pub is_plain_node : Node → Bool
is_plain_node (File bytes) = true
is_plain_node Folder = true
is_plain_node Other = false

-- the bytes of a regular file
abbrev pub bytes_of : Option Node → Option (List ℕ)
bytes_of (Some (File bytes)) = Some bytes
bytes_of (Some Folder) = None
bytes_of (Some Other) = None
bytes_of None = None

abbrev pub is_folder_node : Option Node → Bool
is_folder_node None = false
is_folder_node (Some (File bytes)) = false
is_folder_node (Some Folder) = true
is_folder_node (Some Other) = false

-- what stands at each path below the base folder
abbrev pub Nodes : Type 0
Nodes = map.FinMap text_cmp Node

-- what a disk means
pub record DiskState : Type 0 where
  pub nodes : Nodes
  -- nobody but the disk's own calls alters the nodes, and the calls answer what they are
  pub honest : Bool
  -- the paths that were opened
  pub openings : List (List ℕ)
  -- the rest of the open file
  pub rest : Option (List ℕ)
  -- the names that are left of the folder that was entered
  pub names : List (List ℕ)
  -- how often the device has refused
  pub failures : ℕ
  -- what the device did, in order, where it notes that
  pub trail : List DeviceEvent
  -- the device notes what it does, and what it synced is durable
  pub noted : Bool

-- the regular files and the folders, without what else stands there
abbrev pub files_and_folders : Nodes → Nodes
files_and_folders nodes =
    map.from_entries (filter (λ entry. is_plain_node entry.1) (map.entries nodes))

-- how many files and folders stand there
abbrev pub entry_count : Nodes → ℕ
entry_count nodes = map.len (files_and_folders nodes)

-- only files and folders stand there, with names in UTF-8
abbrev pub is_plain : Nodes → Bool
is_plain nodes = list_all (λ entry. is_plain_node entry.1) (map.entries nodes)
