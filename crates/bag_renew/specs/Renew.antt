-- What renewing a bag promises.
use Rattle.std.specs.Prelude.{◌≡◌, ◌≤◌, ◌-◌, false, true, All, IsTrue, List, Some, slice_get}
use Rattle.std.specs.Prelude.{Result, IfErr, OnOk}
use Rattle.bag_tree.specs.Bag.{Bag}
use Rattle.bag_tree.specs.ChangeFiles.{HasChanged, HasStopped, IsOfFile}
use Rattle.bag_tree.specs.Cut.{IsDurableAs}
use Rattle.bag_tree.specs.FileChanges.{IsAfterFirst}
use Rattle.bag_tree.specs.Resumed.{EachResumedCut, IsDurableOnceSynced}
use Rattle.bag_tree.specs.Tree.{Keeps, TreeState}
use Rattle.bag_tree.specs.declared.changing_files.RefusedChange.{RefusedChange}
use Rattle.bag_tree.specs.declared.event.DeviceEvent.{DeviceEvent}
use Rattle.bag_tree.specs.declared.file_change.FileChange.{FileChange}
use Rattle.bag_tree.specs.declared.file_change.FileChange.TheVariants.{Put, Remove}
use Rattle.bag_tree.specs.declared.tree_fault.TreeFault.{TreeFault}
use Rattle.bag_faults.specs.declared.fault.Fault.{Fault}
use Rattle.bag_report.specs.Valid.{IsFaultOf}
use Rattle.bag_changes.specs.Changes.{changes}
use Rattle.bag_changes.specs.Openings.{OpensBefore, OpensForRenewal}
use Rattle.bag_changes.specs.Planned.{ChangesCompared}
use Rattle.bag_changes.specs.Reading.{IsReadForRenewal, MayRefuseReading}
use Rattle.bag_renewed.specs.Renewed.{begun_file, renewed}
use Rattle.bag_renewed.specs.Request.{is_bad_request}
use Rattle.bag_changes.specs.Valid.{DropsCompared, HasKnownSize, IsOldDamage}
use Rattle.bag_changes.specs.declared.fault.RenewFault.{RenewFault}
use Rattle.bag_changes.specs.declared.fault.RenewFault.TheVariants as why
use Rattle.bag_renewed.specs.declared.renewal.Renewal.{Renewal}

-- All was read for a renewal, and these are its changes, of an honest tree's bag.
pub record HasPlanned (renewal : Renewal) (old new : TreeState) (planned : List FileChange) : Type 0
  where
    pub asked : is_bad_request renewal.elements ≡ false
    pub read : IsReadForRenewal renewal old new
    -- where a manifest is dropped the bag has no fault
    pub dropped : IsTrue old.honest → DropsCompared old.bag renewal
    pub changes_are : IsTrue old.honest → planned ≡ changes old.bag renewal
    pub of_files : All (IsOfFile begun_file) planned
    pub compared : ChangesCompared renewal old new planned

-- The bag was renewed: all was read for it, and then the changes were made. Of an honest tree it is
-- the renewed bag then. Over any tree the changes are of bytes whose digests were compared, and
-- which the tree notes that it gave, also when they are made.
pub record HasRenewed (renewal : Renewal) (old new : TreeState) : Type 0 where
  pub planned : List FileChange
  pub read : TreeState
  pub plan : HasPlanned renewal old read planned
  pub changed : HasChanged begun_file planned read new
  pub compared : ChangesCompared renewal old new planned
  pub bag : IsTrue old.honest → new.bag ≡ renewed old.bag renewal

-- what a refused change is told as
abbrev pub told_as : FileChange → TreeFault → RenewFault
told_as (Put name bytes) cause = why.PutRefused name cause
told_as (Remove name) cause = why.RemoveRefused name cause

-- The changes before one were made, and this one was refused, as the tree answered, and is told so.
pub record HasStoppedAt (planned : List FileChange) (read new : TreeState) (fault : RenewFault)
    : Type 0 where
  pub refused : RefusedChange
  pub stopped : HasStopped begun_file planned read new refused
  pub change : FileChange
  pub place : slice_get planned (refused.place - 1) ≡ Some change
  pub told : fault ≡ told_as change refused.cause

-- All was read for the renewal, and then one of the changes was refused. Over any tree those before
-- it are of bytes whose digests were compared, as they are where all are made.
pub record HasBegun (renewal : Renewal) (old new : TreeState) (fault : RenewFault) : Type 0 where
  pub planned : List FileChange
  pub read : TreeState
  pub plan : HasPlanned renewal old read planned
  pub stopped : HasStoppedAt planned read new fault
  pub compared : ChangesCompared renewal old new planned

-- When each refusal comes. Each but that of a change leaves the tree's bag as it was.
abbrev pub MayRefuseRenewing : Renewal → TreeState → TreeState → RenewFault → Type 0
MayRefuseRenewing renewal old new (why.PutRefused name cause) =
    HasBegun renewal old new (why.PutRefused name cause)
MayRefuseRenewing renewal old new (why.RemoveRefused name cause) =
    HasBegun renewal old new (why.RemoveRefused name cause)
MayRefuseRenewing renewal old new fault = Keeps old new × MayRefuseReading renewal old new fault

-- a bag has no fault that another hasn't
abbrev pub HasNoNewFault : Bag → Bag → Type 0
HasNoNewFault bag left = (f : Fault) → IsFaultOf left f → IsFaultOf bag f

-- After the events that were added to a trail this bag is durable, if that one was, once the base
-- folder is synced, when they began: but for the bytes of a file that an earlier renewal had begun.
abbrev pub LeavesRenewed : List DeviceEvent → List DeviceEvent → Bag → Bag → Type 0
LeavesRenewed old new bag now =
    (first : Bag) → IsDurableOnceSynced begun_file old first bag → IsDurableAs new first now

-- All that is promised of renewing a bag.
pub record IsRenewal (renewal : Renewal) (old new : TreeState)
    (result : Result (Unit {0}) RenewFault) : Type 0 where
  pub honest : new.honest ≡ old.honest
  pub failures : old.failures ≤ new.failures
  pub noted : new.noted ≡ old.noted
  -- where the request can't be met nothing is looked at
  pub untouched : is_bad_request renewal.elements ≡ true → new ≡ old
  pub is_renewed : OnOk result (HasRenewed renewal old new)
  -- a fault of the renewed bag is damage of the payload that the bag had, by a manifest that is
  -- kept; it has none where the payload was read
  pub valid : OnOk result (IsTrue old.honest → HasKnownSize old.bag
      → (f : Fault) → IsFaultOf new.bag f → IsOldDamage old.bag renewal f)
  -- no manifest is dropped that tells damage: the bag had no fault then, unless that was asked for
  -- unchecked
  pub dropped : OnOk result (IsTrue old.honest → DropsCompared old.bag renewal)
  pub refused : IfErr result (MayRefuseRenewing renewal old new)
  -- over any tree, and however it ends
  pub opens : OpensForRenewal renewal old new
  pub opens_before : IfErr result (OpensBefore old new)
  -- A power cut at any moment leaves what the first of the changes made, or what it could have left
  -- before them. The bag need only be durable once the base folder is synced, but for the bytes of
  -- `.bagit-begun`: so it is where an earlier renewal was killed.
  pub any_moment : IsTrue old.honest → IsTrue old.noted
      → EachResumedCut begun_file old.trail new.trail old.bag
      (IsAfterFirst begun_file (changes old.bag renewal) old.bag)
  -- and that has no fault that the bag hadn't
  pub no_new_fault : IsTrue old.honest → IsTrue old.noted → HasKnownSize old.bag
      → EachResumedCut begun_file old.trail new.trail old.bag (HasNoNewFault old.bag)
  -- and after Ok a power cut leaves the renewed bag, and nothing else
  pub lasting : OnOk result (IsTrue old.honest → IsTrue old.noted
      → LeavesRenewed old.trail new.trail old.bag (renewed old.bag renewal))
