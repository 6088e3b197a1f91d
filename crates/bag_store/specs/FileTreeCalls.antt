-- What the calls of a tree of files promise.
use Rattle.std.specs.Prelude.{◌≡◌, ◌<◌, ◌⊎◌, ⊤, IsTrue, List, ℕ}
use Rattle.bag_tree.specs.Asked.{Adds}
use Rattle.bag_tree.specs.Tree.{TreeState}
use Rattle.bag_tree.specs.declared.tree_fault.TreeFault.{TreeFault}
use Rattle.bag_tree.specs.declared.tree_fault.TreeFault.TheVariants.{Device, Special, Name}
use Rattle.bag_tree.specs.declared.tree_fault.TreeFault.TheVariants.{NotFound, TooMany, Changed}
use Rattle.bag_tree.specs.declared.tree_fault.TreeFault.TheVariants.{NoneOpen, Memory, Exists}
use Rattle.bag_store.specs.declared.file_tree.FileTree.{FileTree}
use Rattle.bag_disk.specs.Disk.{DiskState}
use Rattle.bag_disk.specs.declared.disk.Disk as Disk
use Rattle.bag_disk.specs.Refusal.{MeetsSpecial, MeetsUnnamed}
use Rattle.bag_store.specs.Answered.{own_failures, replies_of}
use Rattle.bag_store.specs.Asking.{SyncsBoth}
use Rattle.bag_store.specs.FileTree.{file_state_after}

-- the device of a disk refused
abbrev pub HasFailed : DiskState → DiskState → Type 0
HasFailed old new = old.failures < new.failures

-- What a tree's refusal says of its disk, as it was before the call and after it: that its device
-- refused in this call, that something stands there that is no file and no folder, or that
-- something has a name that isn't UTF-8. `reason` says when the tree reports a failure of its own.
abbrev pub ReportsDisk : Type 0 → DiskState → DiskState → TreeFault → Type 0
ReportsDisk reason old new Device = HasFailed old new ⊎ reason
ReportsDisk reason old new Special = MeetsSpecial old
ReportsDisk reason old new Name = MeetsUnnamed old
ReportsDisk reason old new NotFound = ⊤
ReportsDisk reason old new TooMany = ⊤
ReportsDisk reason old new Changed = ⊤
ReportsDisk reason old new NoneOpen = ⊤
ReportsDisk reason old new Memory = ⊤
ReportsDisk reason old new Exists = ⊤

-- what a refusal says of its disk where the tree reports no failure of its own
abbrev pub ReportsDiskOnly : DiskState → DiskState → TreeFault → Type 0
ReportsDiskOnly = ReportsDisk ⊥

-- That a name is taken is answered only where it was seen after the folder and the base folder were
-- synced.
abbrev pub AnswersTakenLast : List ℕ → DiskState → DiskState → TreeFault → Type 0
AnswersTakenLast folder old new cause =
    cause ≡ Exists → IsTrue old.noted → Adds (SyncsBoth folder) old.trail new.trail

-- what a tree means whose disk means this
abbrev pub state_of : {D : Type 0} {disk : Disk.Ghosts D} → (D → DiskState) → FileTree D disk
    → TreeState
state_of state tree =
    file_state_after (state tree.disk) (own_failures tree.answered) (replies_of tree.answered)

-- the disk of a tree
abbrev pub disk_of : {D : Type 0} {disk : Disk.Ghosts D} → FileTree D disk → D
disk_of tree = tree.disk
