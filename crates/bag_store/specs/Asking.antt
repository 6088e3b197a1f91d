-- What calls ask of a disk.
use Rattle.std.specs.Prelude.{ℕ, ◌≡◌, ◌++◌, true, IsTrue, List, [], ◌∷◌, Option, Some, MatchResult}
use Rattle.std.specs.Prelude.{Result, map}
use Rattle.bag_tree.specs.Asked.{Adds, AreSyncs, Asking, has_durable_folders, joined}
use Rattle.bag_tree.specs.FileChanges.{AsksFirstOf}
use Rattle.bag_tree.specs.declared.event.DeviceEvent.{DeviceEvent}
use Rattle.bag_tree.specs.declared.event.DeviceEvent.TheVariants.{Write, Sync, SyncFolder}
use Rattle.bag_disk.specs.Disk.{DiskState}
use Rattle.bag_disk.specs.declared.refusal.Refusal.{Refusal}
use Rattle.bag_disk.specs.declared.refusal.Refusal.TheVariants as refused

-- Of a device that notes what it does a call asked this: where it was answered, and where it was
-- refused.
abbrev pub AsksOfDisk : {T : Type 0} → Asking → Asking → DiskState → DiskState → Result T Refusal
    → Type 0
AsksOfDisk asks refused_asks old new result =
    IsTrue old.noted → MatchResult result
    (λ _. Adds asks old.trail new.trail)
    (λ _. Adds refused_asks old.trail new.trail)

-- the names that folders were given in the base folder are durable, where the device notes what it
-- does
abbrev pub HasDurableFolders : DiskState → Type 0
HasDurableFolders disk = IsTrue disk.noted → has_durable_folders disk.trail ≡ true

-- a folder is synced, and then the base folder
abbrev pub SyncsBoth : List ℕ → Asking
SyncsBoth folder before now = now ≡ SyncFolder folder ∷ SyncFolder [] ∷ []

-- a name was seen to be taken only after the folder and the base folder were synced
abbrev pub SeesTakenLast : List ℕ → DiskState → DiskState → Refusal → Type 0
SeesTakenLast folder old new refusal =
    refusal ≡ refused.Exists → IsTrue old.noted
    → Adds (SyncsBoth folder) old.trail new.trail

-- the bytes of a file are written, in pieces
pub record WritesPieces (path bytes : List ℕ) (before now : List DeviceEvent) : Type 0 where
  pub pieces : List (List ℕ)
  pub whole : joined pieces ≡ bytes
  pub asked : now ≡ map (Write path) pieces

-- and then they are synced, and the names in the base folder
pub record FillsFile (path bytes : List ℕ) (before now : List DeviceEvent) : Type 0 where
  pub pieces : List (List ℕ)
  pub whole : joined pieces ≡ bytes
  pub asked : now ≡ map (Write path) pieces ++ Sync path ∷ SyncFolder [] ∷ []

-- some of that is asked: some bytes of a file are written, all of them before it is synced
abbrev pub FillsPart : List ℕ → List ℕ → Asking
FillsPart path bytes = AsksFirstOf (FillsFile path bytes)

-- syncs, each of which was answered
abbrev pub AsksAnsweredSyncs : Asking
AsksAnsweredSyncs before now = AreSyncs now

-- what filling the file asks that is being written
abbrev pub HasFilled : (List ℕ → Asking) → (List ℕ → Asking) → Option (List ℕ) → DiskState
    → DiskState
    → Result (Unit {0}) Refusal → Type 0
HasFilled asks refused_asks written old new result =
    (path : List ℕ) → written ≡ Some path
    → AsksOfDisk (asks path) (refused_asks path) old new result
