-- The folders that disks reach.
use Rattle.std.specs.Prelude.{ℕ, ◌≡◌, List, [], ◌∷◌, ◌++◌}
use Rattle.bag_disk.specs.Disk.{DiskState}
use Rattle.bag_store.specs.FileTree.{tree_state}
use Rattle.bag_tree.specs.Tree.{TreeState}
use Rattle.bag_reports.specs.Reports.{ReportsState}
use Rattle.bag_archive.specs.Archive.{ArchiveState}
use Rattle.bag_program.specs.Visits.{Event}
use Rattle.bag_program.specs.declared.folders.Folders.{Folders}
use Rattle.bag_program.specs.declared.visits.Visits.{Visits}

-- the disks that reach them
abbrev pub disks_of : {D : Type 0} → Folders D → D
disks_of folders = folders.disks.now

-- the tree of the files in a folder, as it is when it is given
abbrev pub tree_in : {D : Type 0} → (D → List ℕ → DiskState) → Folders D → List ℕ → TreeState
tree_in below folders name = tree_state (below (disks_of folders) name) 0

-- the tar file at a path, as it is when it is given
abbrev pub tar_in : {D : Type 0} → (D → List ℕ → ArchiveState) → Folders D → List ℕ → ArchiveState
tar_in archived folders name = archived (disks_of folders) name

-- the reports at these paths, as they are when they are given
abbrev pub reports_in : {D : Type 0} → (D → List (List ℕ) → ReportsState) → Folders D
    → List (List ℕ) → ReportsState
reports_in reported folders paths = reported (disks_of folders) paths

-- what was done with folders, in order
abbrev pub visits_of : {D : Type 0} → Visits D → List Event
visits_of visits = visits.record.items

-- this was done with them, and no more
abbrev pub AddsEvent : {D : Type 0} → Visits D → Visits D → Event → Type 0
AddsEvent old new event = visits_of new ≡ visits_of old ++ event ∷ []
