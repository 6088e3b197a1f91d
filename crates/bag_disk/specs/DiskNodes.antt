-- What stands where on a disk, and what its calls promise.
use Rattle.std.specs.Prelude.{ℕ, ◌≡◌, ◌≢◌, ◌<◌, Bool, true, false, IsTrue, IsUtf8, List, [], ◌∷◌, ⊤}
use Rattle.std.specs.Prelude.{length, All, Contains, MatchOption, Option, Some, None, is_some}
use Rattle.std.specs.Option.{option_map}
use Rattle.std.proofs.Common.{◌∙◌, ap, sym}
use Rattle.std.proofs.lemmas.Bool.{false≢true}
use Rattle.std.specs.FinMap as map
use Rattle.bag_text.specs.Text.{text_cmp}
use Rattle.bag_text.specs.Path.{slash, is_path, under}
use Rattle.bag_tree.specs.FileReads.{ReadsNext}
use Rattle.bag_disk.specs.Location.{path_in}
use Rattle.bag_disk.specs.declared.disk.Entry.{Entry}
use Rattle.bag_disk.specs.declared.disk.Entry.TheVariants as entry
use Rattle.bag_disk.specs.Disk.{Node, is_plain_node, Nodes, DiskState}
use Rattle.bag_disk.specs.Disk.Node.{File, Folder, Other}

abbrev pub node : Nodes → List ℕ → Option Node
node nodes path = map.get nodes path

abbrev pub Has : Nodes → List ℕ → Type 0
Has nodes path = is_some (node nodes path) ≡ true

-- the path of something that stands there isn't in UTF-8
abbrev pub HasUnnamedPath : Nodes → Type 0
HasUnnamedPath nodes = (path : List ℕ) × Has nodes path × ¬ (IsUtf8 path)

-- something that is no file and no folder stands there, and its path is in UTF-8
abbrev pub HasSpecial : Nodes → Type 0
HasSpecial nodes = (path : List ℕ) × (node nodes path ≡ Some Other) × IsUtf8 path

-- one of these names isn't UTF-8
abbrev pub HasUnnamed : List (List ℕ) → Type 0
HasUnnamed names = (name : List ℕ) × Contains names name × ¬ (IsUtf8 name)

-- where the disk is honest, the first bytes of the buffer, so many, were the next of the open file
abbrev pub HasReadNext : DiskState → DiskState → List ℕ → ℕ → Type 0
HasReadNext old new buffer count = IsTrue old.honest → ReadsNext old.rest new.rest count buffer

-- a regular file with these bytes stands there
abbrev pub IsFileWith : Nodes → List ℕ → List ℕ → Type 0
IsFileWith nodes path bytes = node nodes path ≡ Some (File bytes)

-- each folder on the way to the path is a folder, and no link
abbrev pub IsReachedByFolders : Nodes → List ℕ → Type 0
IsReachedByFolders nodes path = (folder rest : List ℕ) → path ≡ under folder rest
    → node nodes folder ≡ Some Folder

-- where the disk is honest and the path is reached, the file there is open, at its first byte
abbrev pub HasOpened : DiskState → DiskState → List ℕ → Type 0
HasOpened old new path = IsTrue old.honest → IsReachedByFolders old.nodes path → (bytes : List ℕ)
    → IsFileWith old.nodes path bytes → new.rest ≡ Some bytes

-- where the disk is honest, the name was the next that was left of the folder that was entered; no
-- name: none was left
abbrev pub TakesName : DiskState → DiskState → Option (List ℕ) → Type 0
TakesName old new next = IsTrue old.honest
    → MatchOption next (old.names ≡ []) (λ name. old.names ≡ name ∷ new.names)

-- a name has no slash
abbrev pub IsName : List ℕ → Type 0
IsName name = All (λ c. c ≢ slash) name

-- the names of what stands in a folder
pub record AreNamesIn (nodes : Nodes) (folder : List ℕ) (names : List (List ℕ)) : Type 0 where
  pub there : (name : List ℕ) → Contains names name → Has nodes (path_in folder name)
  pub all : (name : List ℕ) → IsName name → Has nodes (path_in folder name) → Contains names name

-- the folder is there; the empty path is the base folder
abbrev pub IsFolder : Nodes → List ℕ → Type 0
IsFolder nodes [] = ⊤
IsFolder nodes (c ∷ path) = node nodes (c ∷ path) ≡ Some Folder

-- the names that are left of the folder that was entered are those of what stands in it, where the
-- disk is honest and has the folder
abbrev pub HasEntered : DiskState → DiskState → List ℕ → Type 0
HasEntered old new folder =
    IsTrue old.honest → IsFolder old.nodes folder → AreNamesIn old.nodes folder new.names

-- The rest holds where the disk is honest, and each folder on the way to the path is there.
abbrev pub WhereReached : DiskState → List ℕ → Type 0 → Type 0
WhereReached disk path P = IsTrue disk.honest → IsReachedByFolders disk.nodes path → P

-- where the disk is honest, not all folders on the way to the path are there
abbrev pub IsUnreached : DiskState → List ℕ → Type 0
IsUnreached disk path = WhereReached disk path ⊥

-- so something stands at the path
abbrev pub HasSomethingAt : DiskState → List ℕ → Type 0
HasSomethingAt disk path = WhereReached disk path (Has disk.nodes path)

-- so nothing stands at the path
abbrev pub HasNothingAt : DiskState → List ℕ → Type 0
HasNothingAt disk path = WhereReached disk path (node disk.nodes path ≡ None)

-- what is answered of a node
abbrev pub entry_of_node : Node → Entry
entry_of_node (File bytes) = entry.File (length bytes)
entry_of_node Folder = entry.Folder
entry_of_node Other = entry.Other

-- this stands at the path, which the disk says only where it is honest and the path is reached
abbrev pub HasEntryAt : DiskState → List ℕ → Entry → Type 0
HasEntryAt disk path entry =
    WhereReached disk path (option_map entry_of_node (node disk.nodes path) ≡ Some entry)

-- what every disk has: paths, each in a folder, those of files and folders in UTF-8, and bytes
pub record IsDisk (nodes : Nodes) : Type 0 where
  pub paths : (path : List ℕ) → Has nodes path → IsTrue (is_path path)
  pub texts : (path : List ℕ) (n : Node) → node nodes path ≡ Some n → n ≢ Other → IsUtf8 path
  pub folders : (path : List ℕ) → Has nodes path → IsReachedByFolders nodes path
  pub bytes : (path content : List ℕ) → node nodes path ≡ Some (File content)
      → All (λ b. b < 256) content

-- where nothing stands
pub empty_disk : IsDisk map.empty
empty_disk = record {
  texts = λ path n is.
      absurd (false≢true (sym (ap is_some (map.get-empty text_cmp path)) ∙ ap is_some is));
  paths = λ path has. absurd (false≢true (sym (ap is_some (map.get-empty text_cmp path)) ∙ has));
  folders = λ path has. absurd (false≢true (sym (ap is_some (map.get-empty text_cmp path)) ∙ has));
  bytes = λ path content is.
      absurd (false≢true (ap is_some (sym (map.get-empty text_cmp path) ∙ is)));
}

-- each folder on the way to the path, up to a length, is a folder
abbrev pub IsReachedTo : Nodes → List ℕ → ℕ → Type 0
IsReachedTo nodes path end =
    (folder rest : List ℕ) → path ≡ under folder rest → length folder < end
    → node nodes folder ≡ Some Folder

-- a call that syncs leaves all else, but that its device may have done something
pub record OnlySyncs (old new : DiskState) : Type 0 where
  pub nodes : new.nodes ≡ old.nodes
  pub honest : new.honest ≡ old.honest
  pub openings : new.openings ≡ old.openings
  pub rest : new.rest ≡ old.rest
  pub noted : new.noted ≡ old.noted

-- a call that looks at what stands there leaves all else, and its device does nothing that it notes
pub record OnlyLooks (old new : DiskState) : Type 0 where
  pub nodes : new.nodes ≡ old.nodes
  pub honest : new.honest ≡ old.honest
  pub openings : new.openings ≡ old.openings
  pub rest : new.rest ≡ old.rest
  pub noted : new.noted ≡ old.noted
  pub trail : new.trail ≡ old.trail

-- a call leaves what stands there, its honesty, and what its device did
pub record SameDisk (old new : DiskState) : Type 0 where
  pub nodes : new.nodes ≡ old.nodes
  pub honest : new.honest ≡ old.honest
  pub noted : new.noted ≡ old.noted
  pub trail : new.trail ≡ old.trail

-- a regular file or a folder
abbrev pub is_plain_found : Option Node → Bool
is_plain_found None = false
is_plain_found (Some n) = is_plain_node n
