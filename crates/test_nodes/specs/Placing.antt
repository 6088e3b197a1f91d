-- What can stand on a disk.
use Rattle.std.specs.Prelude.{ℕ, ◌≡◌, ◌≢◌, Bool, true, IsTrue, IsUtf8, List, Option, Some, None}
use Rattle.std.specs.Prelude.{nat_lt}
use Rattle.std.specs.List.{list_all}
use Rattle.std.specs.Str.{is_utf8}
use Rattle.bag_text.specs.Path.{is_path, under}
use Rattle.bag_disk.specs.Disk.{Nodes, Node, is_folder_node}
use Rattle.bag_disk.specs.DiskNodes.{node, Has, IsReachedByFolders, is_plain_found}
use Rattle.bag_disk.specs.Disk.Node.{File, Folder, Other}

-- what is no Other has a name in UTF-8
abbrev pub HasTextPath : List ℕ → Node → Type 0
HasTextPath path n = n ≢ Other → IsUtf8 path

-- numbers below 256
abbrev pub are_bytes : List ℕ → Bool
are_bytes content = list_all (λ b. nat_lt b 256) content

abbrev pub has_bytes : Option Node → Bool
has_bytes None = true
has_bytes (Some (File content)) = are_bytes content
has_bytes (Some Folder) = true
has_bytes (Some Other) = true

-- a node can stand at a path
pub record IsPlaced (nodes : Nodes) (path : List ℕ) (n : Node) : Type 0 where
  pub path_is : IsTrue (is_path path)
  pub named : HasTextPath path n
  pub reached : IsReachedByFolders nodes path
  pub bytes : has_bytes (Some n) ≡ true

-- what `IsDisk` says, by tests, so that it has at most one proof
pub record PassesAsDisk (nodes : Nodes) : Type 0 where
  pub paths : (path : List ℕ) → Has nodes path → is_path path ≡ true
  pub texts : (path : List ℕ) → is_plain_found (node nodes path) ≡ true → is_utf8 path ≡ true
  pub folders : (path : List ℕ) → Has nodes path → (folder rest : List ℕ) → path ≡ under folder rest
      → is_folder_node (node nodes folder) ≡ true
  pub bytes : (path : List ℕ) → has_bytes (node nodes path) ≡ true
