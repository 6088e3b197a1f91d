-- What each change of a tree asks of its device.
use Rattle.std.specs.Prelude.{ℕ, ◌≡◌, ◌++◌, ◌&&◌, ◌||◌, ◌⊎◌, not, Bool, true, false, List, [], ◌∷◌}
use Rattle.std.specs.Prelude.{bytes_eq, map, ⊤}
use Rattle.std.specs.List.{AllByRecursion}
use Rattle.bag_text.specs.Bytes.{Content, Name, Path}
use Rattle.bag_text.specs.Path.{is_base_name, under}
use Rattle.bag_tree.specs.Cut.{is_synced}
use Rattle.bag_tree.specs.declared.event.DeviceEvent.{DeviceEvent}
use Rattle.bag_tree.specs.declared.event.DeviceEvent.TheVariants.{MakeFolder, Rename, Create}
use Rattle.bag_tree.specs.declared.event.DeviceEvent.TheVariants.{Write, Sync, SyncFolder}
use Rattle.bag_tree.specs.declared.event.DeviceEvent.TheVariants.{SyncRefused}

-- the event is a sync, which changes nothing
abbrev pub IsSync : DeviceEvent → Type 0
IsSync (Sync name) = ⊤
IsSync (SyncFolder folder) = ⊤
IsSync event = ⊥

abbrev pub AreSyncs : List DeviceEvent → Type 0
AreSyncs events = AllByRecursion IsSync events

-- the event is a sync, or one that was refused
abbrev pub ChangesNothing : DeviceEvent → Type 0
ChangesNothing (SyncRefused path) = ⊤
ChangesNothing event = IsSync event

abbrev pub ChangeNothing : List DeviceEvent → Type 0
ChangeNothing events = AllByRecursion ChangesNothing events

-- the event gives a folder of the base folder its name
abbrev pub is_named : DeviceEvent → Bool
is_named (MakeFolder name) = true
is_named (Rename from to) = is_base_name to
is_named event = false

-- these events sync the base folder, whatever is refused before
abbrev pub is_base_synced : List DeviceEvent → Bool
is_base_synced [] = false
is_base_synced (SyncFolder synced ∷ later) = bytes_eq synced [] || is_base_synced later
is_base_synced (event ∷ later) = is_base_synced later

-- The base folder is synced after each of these events that gave a folder of it its name. So the
-- name is durable, where no sync was refused between.
abbrev pub has_durable_folders : List DeviceEvent → Bool
has_durable_folders [] = true
has_durable_folders (event ∷ later) =
    (not (is_named event) || is_base_synced later) && has_durable_folders later

-- pieces of bytes, one after the other
abbrev pub joined : List (List ℕ) → List ℕ
joined [] = []
joined (piece ∷ pieces) = piece ++ joined pieces

-- What a change asks, as the events that it adds `now` to those `before`. Each may sync first.
abbrev pub Asking : Type 1
Asking = List DeviceEvent → List DeviceEvent → Type 0

-- a folder of this name is made
pub record AsksFolder (name : Name) (before now : List DeviceEvent) : Type 0 where
  pub syncs : List DeviceEvent
  pub are_syncs : AreSyncs syncs
  pub asked : now ≡ syncs ++ MakeFolder name ∷ []

-- what has a name in the base folder is moved into a folder whose own name is durable by then
pub record AsksMove (top folder : Name) (before now : List DeviceEvent) : Type 0 where
  pub syncs : List DeviceEvent
  pub are_syncs : AreSyncs syncs
  pub durable : has_durable_folders (before ++ syncs) ≡ true
  pub asked : now ≡ syncs ++ Rename top (under folder top) ∷ []

-- the folder is synced, and then the base folder
abbrev pub is_synced_before_base : Path → List DeviceEvent → Bool
is_synced_before_base folder [] = false
is_synced_before_base folder (SyncFolder synced ∷ later) =
    (bytes_eq synced folder && is_synced [] later) || is_synced_before_base folder later
is_synced_before_base folder (event ∷ later) = is_synced_before_base folder later

-- A folder is renamed after it and the base folder were synced, in this order, so that moves into
-- it are durable, and added there before they are removed here.
pub record AsksRename (from to : Name) (before now : List DeviceEvent) : Type 0 where
  pub syncs : List DeviceEvent
  pub are_syncs : AreSyncs syncs
  pub durable : is_synced from syncs ≡ true
  pub base_durable : is_synced [] syncs ≡ true
  pub in_turn : is_synced_before_base from syncs ≡ true
  pub asked : now ≡ syncs ++ Rename from to ∷ []

-- a file is made and its bytes are written, and then its bytes are synced and its name
pub record AsksFile (name : Name) (bytes : Content) (before now : List DeviceEvent) : Type 0 where
  pub syncs : List DeviceEvent
  pub are_syncs : AreSyncs syncs
  pub pieces : List (List ℕ)
  pub whole : joined pieces ≡ bytes
  pub asked : now ≡ syncs ++ Create name ∷ map (Write name) pieces ++ Sync name ∷ SyncFolder [] ∷ []

-- a file is made, and some bytes are written, and then it may be synced, or a sync be refused
pub record AsksPart (name : Name) (before now : List DeviceEvent) : Type 0 where
  pub syncs : List DeviceEvent
  pub are_syncs : AreSyncs syncs
  pub pieces : List (List ℕ)
  pub after : List DeviceEvent
  pub are_after : ChangeNothing after
  pub asked : now ≡ syncs ++ Create name ∷ map (Write name) pieces ++ after

-- a change that is refused may have synced, and a sync may be what was refused
abbrev pub AsksSyncs : Asking
AsksSyncs before now = ChangeNothing now

-- a file whose making is refused may be there in part
abbrev pub MayBegin : Name → Asking
MayBegin name before now = ChangeNothing now ⊎ AsksPart name before now

-- what was added to a trail
pub record Adds (P : Asking) (old new : List DeviceEvent) : Type 0 where
  pub now : List DeviceEvent
  pub trail : new ≡ old ++ now
  pub is : P old now
