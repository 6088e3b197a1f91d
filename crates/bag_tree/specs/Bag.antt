-- A bag: files by their paths, and the folders of its base folder (RFC 8493, 2).
use Rattle.std.specs.Prelude.{◌<◌, ◌≡◌, Bool, true, false, List, Option, Some, All, IsTrue, IsUtf8}
use Rattle.std.specs.FinMap as map
use Rattle.std.specs.FinSet as set
use Rattle.bag_text.specs.Bytes.{Content, Name, Path}
use Rattle.bag_text.specs.Text.{text_cmp}
use Rattle.bag_text.specs.Path.{is_path, is_base_name, under}

pub record Bag : Type 0 where
  -- the bytes of each file
  pub files : map.FinMap text_cmp Content
  -- the names of the folders in the base folder
  pub folders : set.FinSet text_cmp

abbrev pub file : Bag → Path → Option Content
file bag path = map.get bag.files path

abbrev pub has_file : Bag → Path → Bool
has_file bag path = map.contains_key bag.files path

abbrev pub HasFile : Bag → Path → Type 0
HasFile bag path = has_file bag path ≡ true

abbrev pub LacksFile : Bag → Path → Type 0
LacksFile bag path = has_file bag path ≡ false

abbrev pub has_folder : Bag → Name → Bool
has_folder bag name = set.contains bag.folders name

-- the files in path order, each with its bytes
abbrev pub files_of : Bag → List (Path × Content)
files_of bag = map.entries bag.files

-- what every tree's bag is: paths that are texts, and the folders that they need
pub record IsBag (bag : Bag) : Type 0 where
  pub paths : (path : Path) → HasFile bag path → IsTrue (is_path path) × IsUtf8 path
  pub names : (name : Name) → has_folder bag name ≡ true
      → IsTrue (is_base_name name) × IsUtf8 name
  pub parents : (top : Name) (rest : Path) → IsTrue (is_base_name top)
      → HasFile bag (under top rest) → has_folder bag top ≡ true
  pub bytes : (path : Path) (content : Content) → file bag path ≡ Some content
      → All (λ b. b < 256) content
