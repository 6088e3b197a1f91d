-- Why listing a tree and reading its tag files may stop.
use Rattle.std.specs.Prelude.{◌≡◌, ◌≢◌, ◌⊎◌, ◌<◌, [], IsTrue, ⊤}
use Rattle.bag_tree.specs.Stop.{IsOutOfMemory}
use Rattle.bag_tree.specs.Tree.{TreeState, MayRefuseListing, FailsOver, CameFromFile, most_entries}
use Rattle.bag_tree.specs.declared.answer.Answer.TheVariants.{Unlisted}
use Rattle.bag_tree.specs.declared.tree_fault.Stop.{Stop}
use Rattle.bag_tree.specs.declared.tree_fault.TreeFault.{TreeFault}
use Rattle.bag_tree.specs.declared.tree_fault.TreeFault.TheVariants.{Device, Special, Name}
use Rattle.bag_tree.specs.declared.tree_fault.TreeFault.TheVariants.{NotFound, TooMany, Changed}
use Rattle.bag_tree.specs.declared.tree_fault.TreeFault.TheVariants.{NoneOpen, Memory, Exists}

-- Why listing a tree and reading its tag files may be refused. Over an honest tree the cause is the
-- device, something in the tree that is no file and no folder or has a name that isn't UTF-8, the
-- number of its files and folders, or out of memory.
abbrev pub MayRefuseFacts : TreeState → TreeState → TreeFault → Type 0
MayRefuseFacts old new Device = old.failures < new.failures
MayRefuseFacts old new Special = FailsOver old new
MayRefuseFacts old new Name = FailsOver old new
MayRefuseFacts old new NotFound = ¬ (IsTrue old.honest)
MayRefuseFacts old new TooMany = IsTrue old.honest → most_entries < old.entries
MayRefuseFacts old new Changed = ¬ (IsTrue old.honest)
MayRefuseFacts old new NoneOpen = ⊥
MayRefuseFacts old new Memory = ⊤
MayRefuseFacts old new Exists = ⊥

-- the listing was refused, and no other call since: no file is named, none was opened, and what was
-- open is left so
abbrev pub IsOfListing : TreeState → TreeState → Stop → Type 0
IsOfListing old new stop =
    (stop.path ≡ []) × (new.openings ≡ old.openings) × (new.rest ≡ old.rest)
    × (new.last ≡ Unlisted stop.cause) × MayRefuseListing old new stop.cause

-- A stop says what the tree answered last: where it names no file that the listing was refused,
-- and where it names one that a file was. Out of memory may be the caller's own, and names none.
abbrev pub ReportsAnswer : TreeState → Stop → Type 0
ReportsAnswer new stop =
    IsOutOfMemory stop ⊎ ((stop.path ≡ []) × (new.last ≡ Unlisted stop.cause))
    ⊎ ((stop.path ≢ []) × CameFromFile new stop.cause)
