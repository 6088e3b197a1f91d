-- What any plan may come to: nothing, or a text that is written. And what stands on the disks.
use Rattle.std.specs.Prelude.{ℕ, ◌≡◌, ◌⊎◌, true, List, [], Option}
use Rattle.std.specs.Io.KnownBytes.{Appends}
use Rattle.bag_archive.specs.Archive.{ArchiveState}
use Rattle.bag_disk.specs.Disk.{DiskState}
use Rattle.bag_reports.specs.Reports.{ReportsState}
use Rattle.bag_tree.specs.Out.{IsCut}
use Rattle.bag_program.specs.InTurn.{Deed}

-- what stands on the disk below each base folder
abbrev pub Below : Type 0
Below = List ℕ → DiskState

-- what the tar file at each path is
abbrev pub Archived : Type 0
Archived = List ℕ → ArchiveState

-- what the reports at each list of paths are
abbrev pub Reported : Type 0
Reported = List (List ℕ) → ReportsState

-- that the file at a path has these bytes, or none where there is no file that can be read
abbrev pub ReadableFiles : Type 1
ReadableFiles = List ℕ → Option (List ℕ) → Type 0

-- what a program does for words, where that stands on the disks and in files
abbrev pub Doing : Type 1
Doing = Below → Archived → Reported → ReadableFiles → List (List ℕ) → Deed

-- nothing was written and no folder looked into, and this is the status
abbrev pub IsNothing : ℕ → Deed
IsNothing status before after visits n = (n ≡ status) × (after ≡ before) × (visits ≡ [])

-- the output refused in the midst of this text
abbrev pub IsCutOff : List ℕ → Deed
IsCutOff text before after visits n =
    (n ≡ 3) × (after.has_refused ≡ true) × (visits ≡ []) × IsCut before.taken after.taken text

-- a text was written, or the output refused it
abbrev pub IsSaid : List ℕ → Deed
IsSaid text before after visits n =
    ((n ≡ 0) × (visits ≡ []) × Appends before.taken after.taken text)
    ⊎ IsCutOff text before after visits n
