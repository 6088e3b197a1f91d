-- What the calls that put a file in place of another, and remove one, make of what stands there.
use Rattle.std.specs.Prelude.{ℕ, ◌≡◌, false, IsTrue, List}
use Rattle.std.specs.FinMap as map
use Rattle.bag_disk.specs.Disk.{DiskState, Nodes, is_folder_node}
use Rattle.bag_disk.specs.DiskNodes.{Has, IsFileWith, IsReachedByFolders, WhereReached, node}
use Rattle.bag_disk.specs.WritableDisk.{with_file_node}

-- what stands there, without what stands at this path
abbrev pub without_node : Nodes → List ℕ → Nodes
without_node nodes path = map.remove nodes path

-- a file that stood at one path stands at another, where no folder stood
pub record Replaces (old new : Nodes) (from to bytes : List ℕ) : Type 0 where
  pub no_folder : is_folder_node (node old to) ≡ false
  pub put : new ≡ with_file_node (without_node old from) to bytes

-- where the disk is honest, both paths are reached and a file stands at the first
abbrev pub PutsInPlace : DiskState → DiskState → List ℕ → List ℕ → Type 0
PutsInPlace old new from to =
    IsTrue old.honest → IsReachedByFolders old.nodes from → IsReachedByFolders old.nodes to
    → (bytes : List ℕ) → IsFileWith old.nodes from bytes → Replaces old.nodes new.nodes from to bytes

-- what stood at a path, and was no folder, stands there no more
pub record Removes (old new : Nodes) (path : List ℕ) : Type 0 where
  pub there : Has old path
  pub no_folder : is_folder_node (node old path) ≡ false
  pub removed : new ≡ without_node old path

-- where the disk is honest and the path is reached
abbrev pub RemovesFile : DiskState → DiskState → List ℕ → Type 0
RemovesFile old new path = WhereReached old path (Removes old.nodes new.nodes path)
