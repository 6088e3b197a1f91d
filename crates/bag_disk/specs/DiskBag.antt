-- The bag below the base folder of a disk.
use Rattle.std.specs.Prelude.{ℕ, List, Option, Some, None, filter_map, if◌then◌else◌}
use Rattle.std.specs.FinMap as map
use Rattle.std.specs.FinSet as set
use Rattle.bag_text.specs.Path.{is_base_name}
use Rattle.bag_tree.specs.Bag.{Bag}
use Rattle.bag_disk.specs.Disk.{Nodes, Node}
pub use Rattle.bag_disk.specs.Disk.{bytes_of, is_folder_node}
use Rattle.bag_disk.specs.Disk.Node.{File, Folder, Other}

abbrev pub as_file : List ℕ × Node → Option (List ℕ × List ℕ)
as_file (path, File bytes) = Some (path, bytes)
as_file (path, Folder) = None
as_file (path, Other) = None

abbrev pub as_base_folder : List ℕ × Node → Option (List ℕ)
as_base_folder (path, File bytes) = None
as_base_folder (path, Folder) = if is_base_name path then Some path else None
as_base_folder (path, Other) = None

-- the bag below the base folder: the regular files, and the folders of the base folder
unfoldable pub bag_of : Nodes → Bag
bag_of nodes = record {
  files = map.from_entries (filter_map as_file (map.entries nodes));
  folders = set.from_list (filter_map as_base_folder (map.entries nodes));
}
