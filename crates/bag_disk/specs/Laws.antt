-- The law about the bag below a base folder.
use Rattle.std.specs.Prelude.{◌≡◌, ℕ, List, IsTrue}
use Rattle.bag_text.specs.Path.{is_base_name}
use Rattle.bag_tree.specs.Bag.{file, has_folder}
use Rattle.bag_disk.specs.Disk.{Nodes}
use Rattle.bag_disk.specs.DiskNodes.{node}
pub use Rattle.bag_disk.specs.Disk.{bytes_of, is_folder_node}
use Rattle.bag_disk.specs.DiskBag.{bag_of}

-- the law: the bag's file at a path is the regular file that stands there, and its folder of a name
-- is the folder there
pub record BagIsWhatStands : Type 0 where
  pub files : (nodes : Nodes) (path : List ℕ)
      → file (bag_of nodes) path ≡ bytes_of (node nodes path)
  pub folders : (nodes : Nodes) (name : List ℕ) → IsTrue (is_base_name name)
      → has_folder (bag_of nodes) name ≡ is_folder_node (node nodes name)
