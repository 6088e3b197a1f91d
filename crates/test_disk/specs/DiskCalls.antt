-- What a call of a disk makes of what the disk means, and what it answers: of each call the clauses
-- of `Disk`, `WritableDisk` and `ReplaceDisk`.
use Rattle.std.specs.Prelude.{◌≡◌, ◌<◌, ◌≤◌, ◌∷◌, ◌++◌, [], ℕ, List, Option, None, Some, is_some}
use Rattle.std.specs.Prelude.{IfOk, IsErrOf, IsTrue, MatchOption, OnErr, OnOk, Result, length, take}
use Rattle.std.specs.Prelude.{⊤}
use Rattle.bag_text.specs.Path.{is_path}
use Rattle.bag_tree.specs.declared.event.DeviceEvent.TheVariants.{MakeFolder, Rename, Create, Write}
use Rattle.bag_tree.specs.declared.event.DeviceEvent.TheVariants.{Remove, Sync, SyncFolder}
use Rattle.bag_disk.specs.Disk.{DiskState}
use Rattle.bag_disk.specs.DiskNodes.{HasEntered, HasEntryAt, HasNothingAt, HasOpened, HasReadNext}
use Rattle.bag_disk.specs.DiskNodes.{HasSomethingAt, HasUnnamed, IsUnreached, OnlyLooks, OnlySyncs}
use Rattle.bag_disk.specs.DiskNodes.{SameDisk, TakesName}
use Rattle.bag_disk.specs.Refusal.{CountsAs, at_known, of_making, of_name, refusal_at_path}
use Rattle.bag_disk.specs.ReplaceDisk.{PutsInPlace, RemovesFile}
use Rattle.bag_disk.specs.WritableDisk.{AddsFile, AddsFolder, AppendsTo, ClosesOpenFile}
use Rattle.bag_disk.specs.WritableDisk.{HasNoFolder, HasNothingToMove, MovesOnly, MovesToFree}
use Rattle.bag_disk.specs.WritableDisk.{Notes}
use Rattle.bag_disk.specs.declared.disk.Entry.{Entry}
use Rattle.bag_disk.specs.declared.disk.DiskFault.{DiskFault}
use Rattle.bag_disk.specs.declared.disk.DiskFault.TheVariants.{Exists, Name, NotFound}

-- the file that is open for reading is closed
pub record ClosesFile (old new : DiskState) : Type 0 where
  pub same : SameDisk old new
  pub openings : new.openings ≡ old.openings
  pub closed : new.rest ≡ None
  pub failures : new.failures ≡ old.failures

-- what a look at a path does
pub record LooksAt (old new : DiskState) (path : List ℕ) (answer : Result Entry DiskFault) : Type 0
  where
    pub looks : OnlyLooks old new
    pub names : new.names ≡ old.names
    pub found : IfOk answer (HasEntryAt old path)
    pub absent : IsErrOf answer NotFound → HasNothingAt old path
    pub failures : CountsAs refusal_at_path answer old new

-- what a look at what was named does
pub record LooksAtNamed (old new : DiskState) (path : List ℕ)
    (answer : Result Entry DiskFault) : Type 0 where
  pub looks : OnlyLooks old new
  pub names : new.names ≡ old.names
  pub found : IfOk answer (HasEntryAt old path)
  pub failures : CountsAs at_known answer old new

-- what entering a folder does
pub record Enters (old new : DiskState) (folder : List ℕ)
    (answer : Result (Unit {0}) DiskFault) : Type 0 where
  pub looks : OnlyLooks old new
  pub honest : OnOk answer (HasEntered old new folder)
  pub failures : CountsAs at_known answer old new

-- what the next name of the folder that was entered does
pub record NamesNext (old new : DiskState) (answer : Result (Option (List ℕ)) DiskFault) : Type 0
  where
    pub looks : OnlyLooks old new
    pub unnamed : IsErrOf answer Name → IsTrue old.honest → HasUnnamed old.names
    pub honest : IfOk answer (TakesName old new)
    pub path : IfOk answer (λ next. MatchOption next ⊤ (λ name. IsTrue (is_path name)))
    pub failures : CountsAs of_name answer old new

-- what opening a file does
pub record Opens (old new : DiskState) (path : List ℕ) (answer : Result (Unit {0}) DiskFault) : Type
    0 where
  pub same : SameDisk old new
  pub opened : OnOk answer (new.openings ≡ old.openings ++ path ∷ [])
  pub file_open : OnOk answer (IsTrue (is_some new.rest))
  pub honest : OnOk answer (HasOpened old new path)
  pub absent : IsErrOf answer NotFound → HasNothingAt old path
  pub closed : OnErr answer (new.rest ≡ None)
  pub not_opened : OnErr answer (new.openings ≡ old.openings)
  pub failures : CountsAs refusal_at_path answer old new

-- what a read with a buffer of this size does
pub record Reads (old new : DiskState) (room : ℕ) (buffer : List ℕ)
    (answer : Result ℕ DiskFault) : Type 0 where
  pub same : SameDisk old new
  pub openings : new.openings ≡ old.openings
  pub file_open : OnOk answer (IsTrue (is_some new.rest))
  pub within : IfOk answer (λ n. n ≤ room)
  pub honest : IfOk answer (HasReadNext old new buffer)
  pub unread : OnErr answer (new.rest ≡ old.rest)
  pub failures : CountsAs at_known answer old new

-- what making a folder does
pub record MakesFolderAt (old new : DiskState) (written written_then : Option (List ℕ))
    (path : List ℕ) (answer : Result (Unit {0}) DiskFault) : Type 0 where
  pub made : OnOk answer (AddsFolder old new path)
  pub closed : OnOk answer (ClosesOpenFile old new)
  pub ended : OnOk answer (written_then ≡ None)
  pub taken : IsErrOf answer Exists → HasSomethingAt old path
  pub absent : IsErrOf answer NotFound → IsUnreached old path
  pub same : OnErr answer (OnlyLooks old new)
  pub same_file : OnErr answer (written_then ≡ written)
  pub noted : IsTrue old.noted → OnOk answer (Notes (MakeFolder path) old new)
  pub failures : CountsAs of_making answer old new

-- what a move does
pub record Renames (old new : DiskState) (written written_then : Option (List ℕ)) (from to : List ℕ)
    (answer : Result (Unit {0}) DiskFault) : Type 0 where
  pub moved : OnOk answer (MovesToFree old new from to)
  pub others : OnOk answer (MovesOnly old new from to)
  pub closed : OnOk answer (ClosesOpenFile old new)
  pub ended : OnOk answer (written_then ≡ None)
  pub taken : IsErrOf answer Exists → HasSomethingAt old to
  pub absent : IsErrOf answer NotFound → HasNothingToMove old from to
  pub same : OnErr answer (OnlyLooks old new)
  pub same_file : OnErr answer (written_then ≡ written)
  pub noted : IsTrue old.noted → OnOk answer (Notes (Rename from to) old new)
  pub failures : CountsAs at_known answer old new

-- what making a file does
pub record Creates (old new : DiskState) (written written_then : Option (List ℕ)) (path : List ℕ)
    (answer : Result (Unit {0}) DiskFault) : Type 0 where
  pub made : OnOk answer (AddsFile old new path)
  pub closed : OnOk answer (ClosesOpenFile old new)
  pub begun : OnOk answer (IsTrue (is_some (written_then)))
  pub begun_there : OnOk answer (IsTrue old.honest → written_then ≡ Some path)
  pub taken : IsErrOf answer Exists → HasSomethingAt old path
  pub absent : IsErrOf answer NotFound → IsUnreached old path
  pub same : OnErr answer (OnlyLooks old new)
  pub same_file : OnErr answer (written_then ≡ written)
  pub noted : IsTrue old.noted → OnOk answer (Notes (Create path) old new)
  pub named : IsTrue old.noted → OnOk answer (written_then ≡ Some path)
  pub failures : CountsAs of_making answer old new

-- what writing bytes does
pub record Writes (old new : DiskState) (written written_then : Option (List ℕ)) (bytes : List ℕ)
    (answer : Result ℕ DiskFault) : Type 0 where
  pub within : IfOk answer (λ n. n ≤ length bytes)
  pub appended : IfOk answer (λ n. AppendsTo written old new (take n bytes))
  pub closed : OnOk answer (ClosesOpenFile old new)
  pub taken : IsErrOf answer Exists → IsTrue old.honest → ⊥
  pub absent : IsErrOf answer NotFound → IsTrue old.honest → ⊥
  pub unnamed : IsErrOf answer Name → IsTrue old.honest → ⊥
  pub same : OnErr answer (OnlyLooks old new)
  pub same_file : written_then ≡ written
  pub some : IfOk answer (λ n. 0 < length bytes → 0 < n)
  pub noted : IsTrue old.noted
      → IfOk answer (λ n.
      (path : List ℕ) → written ≡ Some path → Notes (Write path (take n bytes)) old new)
  pub failures : CountsAs at_known answer old new

-- what the sync of a file does
pub record Syncs (old new : DiskState) (written written_then : Option (List ℕ))
    (answer : Result (Unit {0}) DiskFault) : Type 0 where
  pub held : OnOk answer (new.nodes ≡ old.nodes)
  pub closed : OnOk answer (ClosesOpenFile old new)
  pub ended : OnOk answer (written_then ≡ None)
  pub taken : IsErrOf answer Exists → IsTrue old.honest → ⊥
  pub absent : IsErrOf answer NotFound → IsTrue old.honest → ⊥
  pub unnamed : IsErrOf answer Name → IsTrue old.honest → ⊥
  pub same : OnErr answer (OnlyLooks old new)
  pub same_file : OnErr answer (written_then ≡ written)
  pub noted : IsTrue old.noted
      → OnOk answer ((path : List ℕ) → written ≡ Some path → Notes (Sync path) old new)
  pub failures : CountsAs at_known answer old new

-- what the sync of a folder does
pub record SyncsFolder (old new : DiskState) (written written_then : Option (List ℕ))
    (folder : List ℕ) (answer : Result (Unit {0}) DiskFault) : Type 0 where
  pub syncs : OnlySyncs old new
  pub same : OnErr answer (OnlyLooks old new)
  pub same_file : written_then ≡ written
  pub taken : IsErrOf answer Exists → IsTrue old.honest → ⊥
  pub absent : IsErrOf answer NotFound → HasNoFolder old folder
  pub unnamed : IsErrOf answer Name → IsTrue old.honest → ⊥
  pub noted : IsTrue old.noted → OnOk answer (Notes (SyncFolder folder) old new)
  pub failures : CountsAs at_known answer old new

-- what putting a file in place of another does
pub record PutsInPlaceAt (old new : DiskState) (written written_then : Option (List ℕ))
    (from to : List ℕ) (answer : Result (Unit {0}) DiskFault) : Type 0 where
  pub replaced : OnOk answer (PutsInPlace old new from to)
  pub closed : OnOk answer (ClosesOpenFile old new)
  pub ended : OnOk answer (written_then ≡ None)
  pub same : OnErr answer (OnlyLooks old new)
  pub same_file : OnErr answer (written_then ≡ written)
  pub noted : IsTrue old.noted → OnOk answer (Notes (Rename from to) old new)
  pub failures : CountsAs at_known answer old new

-- what removing a file does
pub record RemovesAt (old new : DiskState) (written written_then : Option (List ℕ)) (path : List ℕ)
    (answer : Result (Unit {0}) DiskFault) : Type 0 where
  pub removed : OnOk answer (RemovesFile old new path)
  pub closed : OnOk answer (ClosesOpenFile old new)
  pub ended : OnOk answer (written_then ≡ None)
  pub absent : IsErrOf answer NotFound → HasNothingAt old path
  pub same : OnErr answer (OnlyLooks old new)
  pub same_file : OnErr answer (written_then ≡ written)
  pub noted : IsTrue old.noted → OnOk answer (Notes (Remove path) old new)
  pub failures : CountsAs refusal_at_path answer old new
