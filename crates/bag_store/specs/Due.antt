-- How the steps of a tree over a disk may be refused, and the looks before them.
use Rattle.std.specs.Prelude.{ℕ, ◌≡◌, true, IsTrue, List}
use Rattle.bag_disk.specs.Disk.{DiskState}
use Rattle.bag_disk.specs.DiskBag.{bag_of}
use Rattle.bag_disk.specs.Refusal.{IsDue, IsDueInMove, IsDueInStep, IsDueOnly, MeetsSpecial}
use Rattle.bag_disk.specs.declared.refusal.Refusal.{Refusal}
use Rattle.bag_disk.specs.declared.refusal.Refusal.TheVariants.{Special}
use Rattle.bag_tree.specs.Steps.{has_within}

-- a write or a sync: the device refused, or memory did
abbrev pub IsDueToDevice : Refusal → Type 0
IsDueToDevice = IsDueInStep ⊥ ⊥ ⊥

-- a look at a path: `special` says when over something that is no file and no folder
abbrev pub IsDueInLook : Type 0 → Refusal → Type 0
IsDueInLook = IsDueOnly Special

-- a look at what has to be there: `absent` says when it isn't
abbrev pub IsDueInFinding : DiskState → Type 0 → Refusal → Type 0
IsDueInFinding disk absent = IsDue (MeetsSpecial disk) ⊥ absent ⊥

-- a step that makes something: `taken` says when something is in its way
abbrev pub IsDueInMaking : DiskState → Type 0 → Refusal → Type 0
IsDueInMaking disk taken = IsDueInStep (MeetsSpecial disk) ⊥ taken

-- a step that removes something: `absent` says when it isn't there
abbrev pub IsDueInRemoving : DiskState → Type 0 → Refusal → Type 0
IsDueInRemoving disk absent = IsDueInStep (MeetsSpecial disk) absent ⊥

-- a move to where a folder stands: a file is in it, or none was found there
abbrev pub IsDueToFolder : DiskState → List ℕ → Refusal → Type 0
IsDueToFolder disk folder =
    IsDueInMove ⊥ ⊥ (IsTrue disk.honest → has_within (bag_of disk.nodes) folder ≡ true) (Unit {0})
