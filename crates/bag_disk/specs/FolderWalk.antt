-- What a walk over the folders of a disk has found.
use Rattle.std.specs.Prelude.{ℕ, ◌≡◌, ◌⊎◌, ◌+◌, ◌<◌, true, List, [], ◌∷◌, ◌++◌, map, Some, length}
use Rattle.std.specs.Prelude.{All, Contains, IsTrue, vec_len, ⊤}
use Rattle.std.specs.List.Sorted.{IsPermutation, IsSortedByKey, IsStrictlySortedBy}
use Rattle.bag_text.specs.Text.{text_cmp}
use Rattle.bag_text.specs.Path.{is_path, under}
use Rattle.bag_disk.specs.Location.{path_in}
use Rattle.bag_disk.specs.Disk.{DiskState, Nodes, entry_count}
use Rattle.bag_disk.specs.DiskNodes.{node, Has, HasSpecial, HasUnnamedPath, IsFolder}
use Rattle.bag_disk.specs.DiskNodes.{is_plain_found}
use Rattle.bag_disk.specs.Refusal.{IsDue, IsDueInListing, IsDueOnly, MeetsSpecial}
use Rattle.bag_disk.specs.Refusal.{MeetsUnnamed}
use Rattle.bag_disk.specs.declared.refusal.Refusal.TheVariants.{Special}
use Rattle.bag_disk.specs.declared.folder_walk.FolderWalk.{FolderWalk}
use Rattle.bag_disk.specs.declared.refusal.Refusal.{Refusal}
use Rattle.bag_tree.specs.Tree.{most_entries}
use Rattle.bag_disk.specs.Disk.Node.{File}
use Rattle.bag_disk.specs.declared.disk.Entry.{Entry}
use Rattle.bag_disk.specs.declared.disk.Entry.TheVariants as entry
use Rattle.bag_tree.specs.declared.listing.FileEntry.{FileEntry}

-- what stands below a folder; all does below the base folder
abbrev pub IsBelow : List ℕ → List ℕ → Type 0
IsBelow [] path = ⊤
IsBelow (c ∷ folder) path = (rest : List ℕ) × (path ≡ under (c ∷ folder) rest)

-- what stands at a path, or below it
abbrev pub IsAtOrBelow : List ℕ → List ℕ → Type 0
IsAtOrBelow top path = (path ≡ top) ⊎ ((rest : List ℕ) × (path ≡ under top rest))

-- the entry is a file of the disk
abbrev pub IsFileOf : Nodes → FileEntry → Type 0
IsFileOf nodes entry =
    (bytes : List ℕ) × (node nodes entry.path ≡ Some (File bytes)) × (entry.size ≡ length bytes)

abbrev pub walked_paths : List FileEntry → List (List ℕ)
walked_paths files = map (λ file. file.path) files

-- What was found, and what is still to be listed: folders, and in one folder the paths that weren't
-- looked at.
pub record Walked (nodes : Nodes) (files : List FileEntry)
    (folders listed pending : List (List ℕ)) : Type 0 where
  pub are_files : (entry : FileEntry) → Contains files entry → IsFileOf nodes entry
  pub are_folders : (folder : List ℕ) → Contains folders folder → IsFolder nodes folder
  pub were_folders : (folder : List ℕ) → Contains listed folder → IsFolder nodes folder
  pub all : (path : List ℕ) → Has nodes path →
      Contains (walked_paths files) path ⊎ (Contains listed path ⊎ (Contains folders path
      ⊎ (((folder : List ℕ) × Contains folders folder × IsBelow folder path)
      ⊎ ((top : List ℕ) × Contains pending top × IsAtOrBelow top path))))

-- each of these is a file or a folder that is there
abbrev pub AreThere : Nodes → List FileEntry → Type 0
AreThere nodes files = (entry : FileEntry) → Contains files entry
    → is_plain_found (node nodes entry.path) ≡ true

-- each of these is a folder that is there
abbrev pub AreFolders : Nodes → List (List ℕ) → Type 0
AreFolders nodes folders = (folder : List ℕ) → Contains folders folder → IsFolder nodes folder

-- all that was found stands there
pub record AllStand (nodes : Nodes) (files : List FileEntry)
    (folders listed : List (List ℕ)) : Type 0 where
  pub are_there : AreThere nodes files
  pub are_folders : AreFolders nodes folders
  pub were_folders : AreFolders nodes listed

-- One folder is being listed: these of its names weren't looked at.
pub record Listing (nodes : Nodes) (files : List FileEntry) (folders listed : List (List ℕ))
    (folder : List ℕ) (names : List (List ℕ)) : Type 0 where
  pub walked : Walked nodes files folders (listed ++ folder ∷ []) (map (path_in folder) names)
  pub there : (name : List ℕ) → Contains names name → Has nodes (path_in folder name)

-- the files with what stands at one more path
abbrev pub files_with : List FileEntry → List ℕ → Entry → List FileEntry
files_with files path (entry.File size) = files ++ record { path = path; size = size } ∷ []
files_with files path entry.Folder = files
files_with files path entry.Other = files

-- the folders with what stands at one more path
abbrev pub folders_with : List (List ℕ) → List ℕ → Entry → List (List ℕ)
folders_with folders path (entry.File size) = folders
folders_with folders path entry.Folder = folders ++ path ∷ []
folders_with folders path entry.Other = folders

-- the base folder, or a path
abbrev pub IsFolderPath : List ℕ → Type 0
IsFolderPath folder = (folder ≡ []) ⊎ IsTrue (is_path folder)

-- the texts of these files are paths
abbrev pub ArePaths : List FileEntry → Type 0
ArePaths files = All (λ file. IsTrue (is_path file.path)) files

-- and each of these folders has one or is the base folder
abbrev pub AllArePaths : List FileEntry → List (List ℕ) → Type 0
AllArePaths files folders = ArePaths files × All IsFolderPath folders

-- what was found has paths
abbrev pub HasPaths : FolderWalk → Type 0
HasPaths walk = AllArePaths walk.files.items walk.folders.items

-- the folders that are still to be listed, and how many files and folders more can be found
abbrev pub turns_left : FolderWalk → ℕ
turns_left walk = vec_len walk.folders + walk.room

-- what the walk found stands there, where it listed these folders
abbrev pub HasFound : Nodes → FolderWalk → List (List ℕ) → Type 0
HasFound nodes walk listed = AllStand nodes walk.files.items walk.folders.items listed

-- there is too much wherever all that the walk found stands
abbrev pub IsTooMuch : FolderWalk → Type 0
IsTooMuch walk =
    (nodes : Nodes) → HasFound nodes walk walk.listed.items → most_entries < entry_count nodes

-- the disk has too much, where it is honest
abbrev pub HasTooMuch : DiskState → Type 0
HasTooMuch disk = IsTrue disk.honest → most_entries < entry_count disk.nodes

-- The rest holds where the disk is honest, and this folder was the last that was to be listed.
abbrev pub BeforeFolder : DiskState → FolderWalk → List ℕ → Type 0 → Type 0
BeforeFolder disk walk folder P = IsTrue disk.honest
    → Walked disk.nodes walk.files.items (walk.folders.items ++ folder ∷ []) walk.listed.items []
    → P

-- a folder was listed, so that all stands in the walk or is still to be found by it
abbrev pub ListsFolder : DiskState → FolderWalk → FolderWalk → List ℕ → Type 0
ListsFolder disk old new folder = BeforeFolder disk old folder
    (Walked disk.nodes new.files.items new.folders.items new.listed.items [])

-- the disk may refuse a folder so, or there is too much in what was found
abbrev pub MayRefuseFolder : DiskState → FolderWalk → FolderWalk → List ℕ → Refusal → Type 0
MayRefuseFolder disk old new folder = IsDue
    (BeforeFolder disk old folder (HasSpecial disk.nodes))
    (BeforeFolder disk old folder (HasUnnamedPath disk.nodes))
    ⊥
    (BeforeFolder disk old folder (HasFound disk.nodes new new.listed.items))

-- The rest holds where the disk is honest, and of this folder just these names are left.
abbrev pub BeforeNames : DiskState → FolderWalk → List ℕ → (List (List ℕ) → Type 0) → Type 0
BeforeNames disk walk folder P = IsTrue disk.honest → (listed : List (List ℕ))
    → Listing disk.nodes walk.files.items walk.folders.items listed folder disk.names
    → P listed

-- what stands at the names was found, so that the folder is listed
abbrev pub ListsNames : DiskState → FolderWalk → FolderWalk → List ℕ → Type 0
ListsNames disk old new folder = BeforeNames disk old folder
    (λ listed. Walked disk.nodes new.files.items new.folders.items (listed ++ folder ∷ []) [])

-- the disk may refuse its names so, or there is too much in what was found
abbrev pub MayRefuseNames : DiskState → FolderWalk → FolderWalk → List ℕ → Refusal → Type 0
MayRefuseNames disk old new folder = IsDue
    (BeforeNames disk old folder (λ _. HasSpecial disk.nodes))
    (BeforeNames disk old folder (λ _. HasUnnamedPath disk.nodes))
    ⊥
    (BeforeNames disk old folder (λ listed. HasFound disk.nodes new (listed ++ folder ∷ [])))

-- what stands at a path was found, where the disk is honest and it was the first that was to be
-- looked at
abbrev pub FindsPath : DiskState → FolderWalk → FolderWalk → List ℕ → Type 0
FindsPath disk old new path = IsTrue disk.honest → Has disk.nodes path
    → (listed pending : List (List ℕ))
    → Walked disk.nodes old.files.items old.folders.items listed (path ∷ pending)
    → Walked disk.nodes new.files.items new.folders.items listed pending

-- the disk may refuse a path so
abbrev pub MayRefusePath : DiskState → List ℕ → Refusal → Type 0
MayRefusePath disk path =
    IsDueOnly Special (IsTrue disk.honest → Has disk.nodes path → HasSpecial disk.nodes)

-- no listing is to be had of what was found: two files have one path
pub record IsUnlistable (files : List FileEntry) : Type 0 where
  pub sorted : List FileEntry
  pub same : IsPermutation files sorted
  pub in_order : IsSortedByKey (λ file. file.path) text_cmp sorted
  pub twice : ¬ (IsStrictlySortedBy text_cmp (walked_paths sorted))

-- the disk's answers contradict one another: a whole walk found what can't be listed
pub record Contradiction (disk : DiskState) : Type 0 where
  pub files : List FileEntry
  pub listed : List (List ℕ)
  pub walked : IsTrue disk.honest → Walked disk.nodes files [] listed []
  pub unlistable : IsUnlistable files

-- the disk may refuse a whole walk so
abbrev pub MayRefuseWalk : DiskState → Refusal → Type 0
MayRefuseWalk disk = IsDue (MeetsSpecial disk) (MeetsUnnamed disk) ⊥ (HasTooMuch disk)

-- and so the listing
abbrev pub MayRefuseWholeListing : DiskState → Refusal → Type 0
MayRefuseWholeListing disk =
    IsDueInListing (MeetsSpecial disk) (MeetsUnnamed disk) (HasTooMuch disk) (Contradiction disk)
