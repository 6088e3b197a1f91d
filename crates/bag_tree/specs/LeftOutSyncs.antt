-- What a power cut may leave where a sync is left out, whatever else is synced.
use Rattle.std.specs.Prelude.{ℕ, ◌≡◌, ◌≢◌, ◌⊎◌, ◌++◌, false, IsTrue, Contains, List, [], ◌∷◌, map}
use Rattle.bag_text.specs.Bytes.{Path}
use Rattle.bag_text.specs.Path.{is_base_name, under}
use Rattle.bag_tree.specs.Asked.{AreSyncs}
use Rattle.bag_tree.specs.Bag.{Bag, HasFile, LacksFile, has_file}
use Rattle.bag_tree.specs.Cut.{MayLeave, folder_of, is_there, lose}
use Rattle.bag_tree.specs.Moved.{is_within}
use Rattle.bag_tree.specs.Steps.{create}
use Rattle.bag_tree.specs.declared.event.DeviceEvent.{DeviceEvent}
use Rattle.bag_tree.specs.declared.event.DeviceEvent.TheVariants.{MakeFolder, Rename, Create}
use Rattle.bag_tree.specs.declared.event.DeviceEvent.TheVariants.{Remove, Write, Sync, SyncFolder}
use Rattle.bag_tree.specs.declared.event.DeviceEvent.TheVariants.{SyncRefused}

-- these are syncs, and this one isn't among them
abbrev pub AreSyncsWithout : DeviceEvent → List DeviceEvent → Type 0
AreSyncsWithout sync events = AreSyncs events × ¬ Contains events sync

-- what is moved into a new folder may be lost, where the folder's own name isn't synced
abbrev pub MovesMayLose : Type 0
MovesMayLose =
    (bag : Bag) (folder name : Path) (first last : List DeviceEvent)
    → IsTrue (is_base_name folder) → IsTrue (is_base_name name) → is_there bag folder ≡ false
    → AreSyncsWithout (SyncFolder []) first → AreSyncsWithout (SyncFolder []) last
    → MayLeave (MakeFolder folder ∷ first ++ Rename name (under folder name) ∷ last)
    bag (lose name bag)

-- a rename may be undone, where the folder that was left or the other one isn't synced
abbrev pub RenamesMayBeUndone : Type 0
RenamesMayBeUndone =
    (bag : Bag) (from to : Path) (syncs : List DeviceEvent) → AreSyncs syncs
    → ¬ (Contains syncs (SyncFolder (folder_of from)) × Contains syncs (SyncFolder (folder_of to)))
    → MayLeave (Rename from to ∷ syncs) bag bag

-- If a file's move into a folder is left out, and the folder is then renamed to the file's name,
-- the file is lost.
abbrev pub RenamesMayLose : Type 0
RenamesMayLose =
    (bag : Bag) (folder name : Path) (syncs : List DeviceEvent)
    → IsTrue (is_base_name folder) → IsTrue (is_base_name name) → folder ≢ name → AreSyncs syncs
    → ¬ (Contains syncs (SyncFolder []) × Contains syncs (SyncFolder folder))
    → has_file bag folder ≡ false
    → (left : Bag) × LacksFile left name
    × MayLeave (Rename name (under folder name) ∷ syncs ++ Rename folder name ∷ []) bag left

-- a file that was made may be missing, where its folder isn't synced, though its bytes are
abbrev pub FilesMayBeMissing : Type 0
FilesMayBeMissing =
    (bag : Bag) (name : Path) (pieces : List (List ℕ)) (syncs : List DeviceEvent)
    → has_file bag name ≡ false → AreSyncsWithout (SyncFolder (folder_of name)) syncs
    → MayLeave (Create name ∷ map (Write name) pieces ++ syncs) bag bag

-- a file may hold any bytes, where it isn't synced after a write
abbrev pub BytesMayBeAny : Type 0
BytesMayBeAny =
    (bag : Bag) (name : Path) (bytes found : List ℕ) (syncs : List DeviceEvent)
    → HasFile bag name → AreSyncsWithout (Sync name) syncs
    → MayLeave (Write name bytes ∷ syncs) bag (create name found bag)

-- What wasn't durable when a sync was refused may be lost, whatever is synced later: bytes, and a
-- file.
abbrev pub RefusedSyncsMayLose : Type 0
RefusedSyncsMayLose =
    (bag : Bag) (name : Path) (bytes found : List ℕ) (path : Path) (syncs : List DeviceEvent)
    → AreSyncs syncs
    → (HasFile bag name
    → MayLeave (Write name bytes ∷ SyncRefused path ∷ syncs) bag (create name found bag))
    × (has_file bag name ≡ false → MayLeave (Create name ∷ SyncRefused path ∷ syncs) bag bag)

-- this event gives a path to another file or folder, or takes it from one
abbrev pub GivesAnew : Path → DeviceEvent → Type 0
GivesAnew path event =
    (event ≡ MakeFolder path) ⊎ (event ≡ Create path) ⊎ (event ≡ Remove path)
    ⊎ ((other : List ℕ) × (event ≡ Rename path other))
    ⊎ ((other : List ℕ) × (event ≡ Rename other path))

-- A sync of a file makes nothing durable that was written before its path, or one above it, was
-- given anew: the older file may hold any bytes.
abbrev pub SyncsAreOfTheNewFile : Type 0
SyncsAreOfTheNewFile =
    (bag : Bag) (name path : Path) (bytes found : List ℕ) (event : DeviceEvent)
    → HasFile bag name → name ≢ [] → IsTrue (is_within path name) → GivesAnew path event
    → MayLeave (Write name bytes ∷ event ∷ Sync name ∷ []) bag (create name found bag)

-- and a sync of a folder no name: the file that was made in the older one may be missing
abbrev pub SyncsAreOfTheNewFolder : Type 0
SyncsAreOfTheNewFolder =
    (bag : Bag) (folder name path : Path) (event : DeviceEvent)
    → folder ≢ [] → IsTrue (is_base_name name) → IsTrue (is_within path folder)
    → GivesAnew path event
    → MayLeave (Create (under folder name) ∷ event ∷ SyncFolder folder ∷ []) bag bag
