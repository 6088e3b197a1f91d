-- What a power cut may leave of a base folder, by what its device did.
use Rattle.std.specs.Prelude.{ℕ, ◌≡◌, ◌++◌, ◌==◌, ◌&&◌, ◌||◌, ◌⊎◌, not, Bool, true, false}
use Rattle.std.specs.Prelude.{List, [], ◌∷◌, Option, Some, None, bytes_eq, nat_eq, if◌then◌else◌}
use Rattle.std.specs.List.{list_any, starts_with}
use Rattle.std.specs.FinMap as fin
use Rattle.std.specs.FinSet as set
use Rattle.bag_text.specs.Bytes.{Content, Path}
use Rattle.bag_text.specs.Path.{is_base_name, slash}
use Rattle.bag_text.specs.Text.{text_cmp}
use Rattle.bag_tree.specs.Bag.{Bag, file, files_of, has_file, has_folder}
use Rattle.bag_tree.specs.Moved.{is_within, moved}
use Rattle.bag_tree.specs.Steps.{Files, make_folder, create}
use Rattle.bag_tree.specs.declared.event.DeviceEvent.{DeviceEvent}
use Rattle.bag_tree.specs.declared.event.DeviceEvent.TheVariants.{MakeFolder, Rename, Create}
use Rattle.bag_tree.specs.declared.event.DeviceEvent.TheVariants.{Remove, Write, Sync, SyncFolder}
use Rattle.bag_tree.specs.declared.event.DeviceEvent.TheVariants.{SyncRefused}

-- the folder that holds a path's name: what stands before the path's last slash, or else the base
-- folder, whose path is empty
unfoldable pub folder_of : Path → Path
folder_of [] = []
folder_of (c ∷ rest) = if list_any (λ d. d == slash) rest then c ∷ folder_of rest else []

-- a file stands below this folder
abbrev pub has_below : Bag → Path → Bool
has_below bag folder = list_any (λ e. starts_with nat_eq e.0 (folder ++ slash ∷ [])) (files_of bag)

-- The folder is known to be there: it is the base folder, one that stands in it, or one with a file
-- below it. Others may be there or not, since a bag doesn't have deeper folders without files.
abbrev pub is_there : Bag → Path → Bool
is_there bag folder = bytes_eq folder [] || has_folder bag folder || has_below bag folder

-- the files without one that stands at a path, and without those below it
abbrev pub without : Path → Files → Files
without path files = fin.retain_keys files (λ p. not (is_within path p))

-- the folders of the base folder, when what stood at one path has another: a folder, or a file
abbrev pub with_renamed_folder : Path → Path → Bag → set.FinSet text_cmp
with_renamed_folder from to bag =
    if is_base_name to
    then (if is_there bag from then set.insert bag.folders to else set.remove bag.folders to)
    else bag.folders

-- The bag when what stood at one path, with all that is below it, stands at another. A name means
-- one thing: what stood there before is lost.
unfoldable pub rename : Path → Path → Bag → Bag
rename from to bag = record {
  files = moved from to (without to bag.files);
  folders = set.remove (with_renamed_folder from to bag) from;
}

-- the bag without what stood at a path and below it
unfoldable pub lose : Path → Bag → Bag
lose from bag = record {
  files = without from bag.files;
  folders = set.remove bag.folders from;
}

-- the bag with a folder that is made; it has those in the base folder alone
abbrev pub with_made_folder : Path → Bag → Bag
with_made_folder name bag = if is_base_name name then make_folder name bag else bag

-- the bag with these bytes in a file, where that is there
abbrev pub hold : Path → Content → Bag → Bag
hold name bytes bag = if has_file bag name then create name bytes bag else bag

-- the bytes of a file after more were written at its end
abbrev pub appended : Option Content → List ℕ → Content
appended None bytes = bytes
appended (Some content) bytes = content ++ bytes

-- What an event makes of a bag. What had a name before that is given anew is lost; to have its own
-- name changes nothing, and no bytes are written to a file that isn't there.
unfoldable pub done : DeviceEvent → Bag → Bag
done (MakeFolder name) bag = with_made_folder name (lose name bag)
done (Rename from to) bag = if bytes_eq from to then bag else rename from to bag
done (Create name) bag = create name [] (lose name bag)
done (Remove name) bag = lose name bag
done (Write name bytes) bag = hold name (appended (file bag name) bytes) bag
done (Sync name) bag = bag
done (SyncFolder folder) bag = bag
done (SyncRefused path) bag = bag

-- what has this name is at the path or above it; the base folder is below none
abbrev pub is_on_way : Path → Path → Bool
is_on_way path name = not (bytes_eq path []) && is_within name path

-- After the event the path may mean another file or folder: it, or one above it, was made, or was
-- renamed, or is the new name of what was renamed, or was removed.
abbrev pub is_anew : Path → DeviceEvent → Bool
is_anew path (MakeFolder name) = is_on_way path name
is_anew path (Rename from to) = is_on_way path from || is_on_way path to
is_anew path (Create name) = is_on_way path name
is_anew path (Remove name) = is_on_way path name
is_anew path (Write name bytes) = false
is_anew path (Sync name) = false
is_anew path (SyncFolder folder) = false
is_anew path (SyncRefused refused) = false

-- These events sync the folder, before its path may mean another one, and before any sync is
-- refused. That makes the names in it durable, and not its own. A device that refused a sync may
-- have lost what it held, and say so once: a sync that it answers later makes durable what was done
-- since.
abbrev pub is_synced : Path → List DeviceEvent → Bool
is_synced folder [] = false
is_synced folder (SyncFolder synced ∷ later) = bytes_eq synced folder || is_synced folder later
is_synced folder (SyncRefused path ∷ later) = false
is_synced folder (event ∷ later) = not (is_anew folder event) && is_synced folder later

-- These events sync the file, before its path may mean another one, and before any sync is
-- refused. That makes its bytes durable, and not its name.
abbrev pub is_file_synced : Path → List DeviceEvent → Bool
is_file_synced name [] = false
is_file_synced name (Sync synced ∷ later) = bytes_eq synced name || is_file_synced name later
is_file_synced name (SyncRefused path ∷ later) = false
is_file_synced name (event ∷ later) = not (is_anew name event) && is_file_synced name later

-- The later events make an event durable: a name, new or removed, where its folder is synced, one
-- that moved where the folder it left is synced too, bytes where their file is. A sync changes
-- nothing, and no more does one that is refused.
abbrev pub is_durable : DeviceEvent → List DeviceEvent → Bool
is_durable (MakeFolder name) later = is_synced (folder_of name) later
is_durable (Rename from to) later =
    is_synced (folder_of from) later && is_synced (folder_of to) later
is_durable (Create name) later = is_synced (folder_of name) later
is_durable (Remove name) later = is_synced (folder_of name) later
is_durable (Write name bytes) later = is_file_synced name later
is_durable (Sync name) later = true
is_durable (SyncFolder folder) later = true
is_durable (SyncRefused path) later = true

-- What there may be of an event that isn't durable: nothing, but of a write any bytes in its file.
-- So a rename is made whole or not at all.
abbrev pub IsPart : DeviceEvent → Bag → Bag → Type 0
IsPart (Write name bytes) bag part = (found : List ℕ) × (part ≡ hold name found bag)
IsPart event bag part = part ≡ bag

-- What there may be of a name, durable or not, whose folder isn't known to be there: what was made
-- is missing, and what was moved is lost.
abbrev pub IsLost : DeviceEvent → Bag → Bag → Type 0
IsLost (MakeFolder name) bag left = (is_there bag (folder_of name) ≡ false) × (left ≡ bag)
IsLost (Rename from to) bag left = (is_there bag (folder_of to) ≡ false) × (left ≡ lose from bag)
IsLost (Create name) bag left = (is_there bag (folder_of name) ≡ false) × (left ≡ bag)
IsLost event bag left = ⊥

-- what a power cut may leave of an event, by the later ones
abbrev pub MayBecome : DeviceEvent → List DeviceEvent → Bag → Bag → Type 0
MayBecome event later bag left =
    (left ≡ done event bag)
    ⊎ ((is_durable event later ≡ false) × IsPart event bag left)
    ⊎ IsLost event bag left

-- What a power cut may leave of a bag after these events. Without a sync they are in no order: any
-- of them may be left out. Each goes by its paths, so to what stands there on the device by then.
abbrev pub MayLeave : List DeviceEvent → Bag → Bag → Type 0
MayLeave [] bag left = left ≡ bag
MayLeave (event ∷ later) bag left =
    (next : Bag) × MayBecome event later bag next × MayLeave later next left

-- on a device that first held `first` a power cut after these events leaves this bag, nothing else
abbrev pub IsDurableAs : List DeviceEvent → Bag → Bag → Type 0
IsDurableAs trail first bag = (left : Bag) → MayLeave trail first left → left ≡ bag

-- At each moment of the events that were added to a trail, whatever a power cut leaves has P, if
-- the bag was durable when they began. One during an event leaves what one before or after it may.
pub record EachCut (old new : List DeviceEvent) (bag : Bag) (P : Bag → Type 0) : Type 0 where
  pub since : List DeviceEvent
  pub trail : new ≡ old ++ since
  pub each : (first : Bag) → IsDurableAs old first bag → (before after : List DeviceEvent)
      → since ≡ before ++ after → (left : Bag) → MayLeave (old ++ before) first left → P left

-- After the events that were added to a trail this bag is durable, if that one was when they began.
abbrev pub LeavesOnly : List DeviceEvent → List DeviceEvent → Bag → Bag → Type 0
LeavesOnly old new bag now = (first : Bag) → IsDurableAs old first bag → IsDurableAs new first now
