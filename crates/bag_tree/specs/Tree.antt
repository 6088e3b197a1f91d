-- What the calls of a tree answer, and what they change.
use Rattle.std.specs.Prelude.{◌≡◌, ℕ, ◌<◌, ◌≤◌, ◌⊎◌, Bool, true, false, IsTrue, List, [], ◌∷◌, ◌++◌}
use Rattle.std.specs.Prelude.{Option, None, Some, is_some, codes, ⊤}
use Rattle.bag_text.specs.Bytes.{Content, Path}
use Rattle.bag_tree.specs.Bag.{Bag, file}
use Rattle.bag_tree.specs.declared.tree_fault.TreeFault.{TreeFault}
use Rattle.bag_tree.specs.declared.tree_fault.TreeFault.TheVariants.{Device, Special, Name}
use Rattle.bag_tree.specs.declared.tree_fault.TreeFault.TheVariants.{NotFound, TooMany, Changed}
use Rattle.bag_tree.specs.declared.tree_fault.TreeFault.TheVariants.{NoneOpen, Memory, Exists}
use Rattle.bag_tree.specs.declared.event.DeviceEvent.{DeviceEvent}
use Rattle.bag_tree.specs.declared.answer.Answer.{Answer}
use Rattle.bag_tree.specs.declared.answer.Answer.TheVariants.{Given, AtEnd, Unlisted, Refused}
use Rattle.bag_tree.specs.declared.listing.Listing.{Listing}

-- what a tree means
pub record TreeState : Type 0 where
  pub bag : Bag
  -- only files and folders stand there, and their names are UTF-8
  pub plain : Bool
  -- nobody alters the bag, and listing and reads give what it holds
  pub honest : Bool
  -- how many files and folders it has
  pub entries : ℕ
  -- how often the device has failed
  pub failures : ℕ
  -- the paths for which `open_file` answered Ok
  pub openings : List Path
  -- what the last listing gave
  pub listed : Option Listing
  -- of each file that was opened, in order: its path, and the bytes that its reads gave
  pub gave : List (Path × Content)
  -- the rest of the open file
  pub rest : Option (List ℕ)
  -- how many bytes the reads of the open file have given
  pub given : ℕ
  -- what the last call answered
  pub last : Answer
  -- what the device did, in order, where it notes that
  pub trail : List DeviceEvent
  -- the device notes what it does, and what it synced is durable
  pub noted : Bool

-- a call leaves the bag, what else stands there and its honesty, forgets no failure, and its device
-- does nothing that it notes
pub record Keeps (old new : TreeState) : Type 0 where
  pub bag : new.bag ≡ old.bag
  pub plain : new.plain ≡ old.plain
  pub honest : new.honest ≡ old.honest
  pub entries : new.entries ≡ old.entries
  pub failures : old.failures ≤ new.failures
  pub noted : new.noted ≡ old.noted
  pub trail : new.trail ≡ old.trail

-- how many files and folders a tree may have
abbrev pub most_entries : ℕ
most_entries = 16777216

-- the device failed, and of an honest tree something stands there that is no file and no folder, or
-- has a name that isn't UTF-8
abbrev pub FailsOver : TreeState → TreeState → Type 0
FailsOver old new = (old.failures < new.failures) × (IsTrue old.honest → old.plain ≡ false)

-- A call may answer this refusal: `absent` says when an honest tree may answer NotFound, and
-- `closed` when no file is open.
abbrev pub MayRefuse : Type 0 → Type 0 → TreeState → TreeState → TreeFault → Type 0
MayRefuse absent closed old new Device = old.failures < new.failures
MayRefuse absent closed old new Special = FailsOver old new
MayRefuse absent closed old new Name = FailsOver old new
MayRefuse absent closed old new NotFound = IsTrue old.honest → absent
MayRefuse absent closed old new TooMany = IsTrue old.honest → most_entries < old.entries
MayRefuse absent closed old new Changed = ⊥
MayRefuse absent closed old new NoneOpen = closed
MayRefuse absent closed old new Memory = ⊤
MayRefuse absent closed old new Exists = ⊥

-- A listing may be refused so: by the device, for what stands there or how much, and when out of
-- memory. It asks for no path, and needs no open file.
abbrev pub MayRefuseListing : TreeState → TreeState → TreeFault → Type 0
MayRefuseListing old new = MayRefuse ⊥ ⊥ old new

-- to open the file at a path may be refused so, where an honest tree answers NotFound only if it
-- isn't there
abbrev pub MayRefuseOpening : List ℕ → TreeState → TreeState → TreeFault → Type 0
MayRefuseOpening path old new = MayRefuse (file old.bag path ≡ None) ⊥ old new

-- to read the open file may be refused so, with NoneOpen only if none is
abbrev pub MayRefuseRead : TreeState → TreeState → TreeFault → Type 0
MayRefuseRead old new = MayRefuse ⊥ (old.rest ≡ None) old new

-- a file is open
abbrev pub HasOpen : TreeState → Type 0
HasOpen state = is_some state.rest ≡ true

-- the reads of the open file gave more bytes than this size, or came to its end before it
abbrev pub IsOtherSize : TreeState → ℕ → Type 0
IsOtherSize state size = ((state.last ≡ Given) × (size < state.given))
    ⊎ ((state.last ≡ AtEnd) × (state.given < size))

-- the fault with which a call was refused, be it a listing or another
abbrev pub refusal_of : Answer → Option TreeFault
refusal_of Given = None
refusal_of AtEnd = None
refusal_of (Unlisted fault) = Some fault
refusal_of (Refused fault) = Some fault

-- Opening a file and reading it was answered so: the last call with this refusal, or with more or
-- fewer bytes than a size. Out of memory may be the caller's own.
abbrev pub CameFromFile : TreeState → TreeFault → Type 0
CameFromFile state Changed = (size : ℕ) × IsOtherSize state size
CameFromFile state Memory = ⊤
CameFromFile state fault = state.last ≡ Refused fault

-- the word for a refusal
abbrev pub cause_word : TreeFault → List ℕ
cause_word Device = codes "device"
cause_word Special = codes "special"
cause_word Name = codes "name"
cause_word NotFound = codes "not-found"
cause_word TooMany = codes "too-many"
cause_word Changed = codes "changed"
cause_word NoneOpen = codes "none-open"
cause_word Memory = codes "memory"
cause_word Exists = codes "exists"

-- the device didn't fail, and the tree's last answer is no refusal, or nothing was asked of it
pub record NothingFailed (old new : TreeState) : Type 0 where
  pub failures : new.failures ≡ old.failures
  pub last : (new ≡ old) ⊎ (refusal_of new.last ≡ None)

-- out of memory may be reported: the tree reported it, or it refused nothing
abbrev pub MayReportMemory : TreeState → TreeState → Type 0
MayReportMemory old new = (refusal_of new.last ≡ Some Memory) ⊎ NothingFailed old new

-- The file was refused when these had been opened: either its opening, and no file is open, or a
-- read of it, and it is still open.
abbrev pub IsRefusedAt : List Path → Path → TreeState → Type 0
IsRefusedAt opened path new = ((new.rest ≡ None) × (new.openings ≡ opened))
    ⊎ (HasOpen new × (new.openings ≡ opened ++ path ∷ []))
