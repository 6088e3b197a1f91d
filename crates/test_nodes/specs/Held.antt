-- What a disk in memory holds.
use Rattle.std.specs.Prelude.{ℕ, ◌==◌, List, [], ◌∷◌, map, filter_map, Option, Some, None}
use Rattle.std.specs.Prelude.{if◌then◌else◌, Vec}
use Rattle.std.specs.FinMap as fin
use Rattle.std.specs.declared.alloc.Global.{Global}
use Rattle.std.specs.List.{list_any}
use Rattle.bag_text.specs.Text.{after_prefix}
use Rattle.bag_text.specs.Path.{slash}
use Rattle.bag_disk.specs.Disk.{Nodes}
use Rattle.bag_disk.specs.Disk as disk
use Rattle.bag_disk.specs.Disk.Node.{File as FileNode, Folder as FolderNode, Other as OtherNode}
use Rattle.test_nodes.specs.declared.held.Node.{Node}
use Rattle.test_nodes.specs.declared.held.Node.TheVariants.{File, Folder, Other}

-- what is held, by its paths
abbrev pub Held : Type 0
Held = List (Vec ℕ Global × Node)

-- what is held, as contracts of disks see it
abbrev pub node_of : Node → disk.Node
node_of (File bytes) = FileNode bytes.items
node_of Folder = FolderNode
node_of Other = OtherNode

-- what is held at each path
abbrev pub entries_of : Held → List (List ℕ × disk.Node)
entries_of held = map (λ e. (e.0.items, node_of e.1)) held

abbrev pub nodes_of : Held → Nodes
nodes_of held = fin.from_entries (entries_of held)

abbrev pub after_folder : Option (List ℕ) → Option (List ℕ)
after_folder None = None
after_folder (Some rest) = after_prefix (slash ∷ []) rest

-- what a path is below a folder, where it stands there
abbrev pub below : List ℕ → List ℕ → Option (List ℕ)
below [] path = Some path
below (c ∷ folder) path = after_folder (after_prefix (c ∷ folder) path)

abbrev pub as_name : Option (List ℕ) → Option (List ℕ)
as_name None = None
as_name (Some rest) = if list_any (λ c. c == slash) rest then None else Some rest

-- the name that a path has in a folder, where it stands right in it
abbrev pub name_in : List ℕ → List ℕ → Option (List ℕ)
name_in folder path = as_name (below folder path)

-- the names of what stands in a folder
abbrev pub names_in : List ℕ → Held → List (List ℕ)
names_in folder held = filter_map (λ e. name_in folder e.0.items) held
