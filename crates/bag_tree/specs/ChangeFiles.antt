-- What changing files of the base folder, one after another, promises.
use Rattle.std.specs.Prelude.{ℕ, ◌≡◌, ◌≢◌, ◌⊎◌, ◌≤◌, ◌-◌, true, IsTrue, List, [], Some, slice_get}
use Rattle.std.specs.Prelude.{take}
use Rattle.bag_text.specs.Bytes.{Name}
use Rattle.bag_text.specs.Path.{is_base_name}
use Rattle.bag_tree.specs.Asked.{Adds}
use Rattle.bag_tree.specs.Bag.{LacksFile, has_folder}
use Rattle.bag_tree.specs.Changes.{AppliesStep, IsUnchanged, MayRefuseChange}
use Rattle.bag_tree.specs.Cut.{EachCut, LeavesOnly, lose}
use Rattle.bag_tree.specs.FileChanges.{AsksFirstOf, CanChangeAll, ChangeAsks, ChangesAsk}
use Rattle.bag_tree.specs.FileChanges.{IsAfterFirst, after_changes}
use Rattle.bag_tree.specs.ReplaceCalls.{LeavesReplaced}
use Rattle.bag_tree.specs.Resumed.{EachResumedCut, ResumedLeavesOnly}
use Rattle.bag_tree.specs.Steps.{is_taken}
use Rattle.bag_tree.specs.Tree.{TreeState}
use Rattle.bag_tree.specs.declared.answer.Answer.TheVariants.{Refused}
use Rattle.bag_tree.specs.declared.changing_files.RefusedChange.{RefusedChange}
use Rattle.bag_tree.specs.declared.file_change.FileChange.{FileChange}
use Rattle.bag_tree.specs.declared.file_change.FileChange.TheVariants.{Put, Remove}
use Rattle.bag_tree.specs.declared.tree_fault.TreeFault.{TreeFault}

-- its name is one of the base folder, and not the one beside
abbrev pub IsOfFile : Name → FileChange → Type 0
IsOfFile beside (Put name bytes) = IsTrue (is_base_name name) × (beside ≢ name)
IsOfFile beside (Remove name) = IsTrue (is_base_name name)

-- how many files and folders more there may be after the change
abbrev pub more_by : FileChange → ℕ
more_by (Put name bytes) = 1
more_by (Remove name) = 0

-- A change that is refused left nothing, but that a file may be begun beside, or the change made:
-- it isn't known whether that is durable.
abbrev pub LeavesChange : Name → FileChange → TreeState → TreeState → Type 0
LeavesChange beside (Put name bytes) old new = LeavesReplaced beside name bytes old new
LeavesChange beside (Remove name) old new = IsUnchanged old new ⊎ AppliesStep (lose name) 0 old new

-- a change may answer this refusal
abbrev pub MayRefuseFileChange : Name → FileChange → TreeState → TreeState → TreeFault → Type 0
MayRefuseFileChange beside (Put name bytes) old new =
    MayRefuseChange ⊥ ((is_taken old.bag beside ≡ true) ⊎ (has_folder old.bag name ≡ true)) old new
MayRefuseFileChange beside (Remove name) old new =
    MayRefuseChange (LacksFile old.bag name) ⊥ old new

-- These changes were made. The bag of an honest tree is then the changes' bag, the device didn't
-- fail, it was asked for what the changes ask, and no file was listed or opened, so that what the
-- tree gave before stays noted.
pub record HasChanged (beside : Name) (changes : List FileChange) (old new : TreeState) : Type 0
  where
    pub bag : IsTrue old.honest → new.bag ≡ after_changes changes old.bag
    pub honest : new.honest ≡ old.honest
    pub no_failure : new.failures ≡ old.failures
    pub openings : new.openings ≡ old.openings
    pub listed : new.listed ≡ old.listed
    pub gave : new.gave ≡ old.gave
    pub noted : new.noted ≡ old.noted
    pub asked : IsTrue old.noted → Adds (ChangesAsk beside changes) old.trail new.trail

-- All changes before this one were made, and this one was refused, as the tree answered.
pub record HasStopped (beside : Name) (changes : List FileChange) (old new : TreeState)
    (refusal : RefusedChange) : Type 0 where
  pub first : 1 ≤ refusal.place
  pub change : FileChange
  pub place : slice_get changes (refusal.place - 1) ≡ Some change
  pub before : TreeState
  pub changed : HasChanged beside (take (refusal.place - 1) changes) old before
  pub left : LeavesChange beside change before new
  pub refused : MayRefuseFileChange beside change before new refusal.cause
  pub answered : new.last ≡ Refused refusal.cause
  pub asked : IsTrue before.noted
      → Adds (AsksFirstOf (ChangeAsks beside change)) before.trail new.trail

-- a power cut at any moment of the changes leaves what the first of them made
abbrev pub OutlastsChanges : Name → List FileChange → TreeState → TreeState → Type 0
OutlastsChanges beside changes old new =
    IsTrue old.noted → CanChangeAll beside changes old.bag
    → EachCut old.trail new.trail old.bag (IsAfterFirst beside changes old.bag)

-- a power cut after the changes leaves what all of them made, and nothing else
abbrev pub LastsChanged : Name → List FileChange → TreeState → TreeState → Type 0
LastsChanged beside changes old new =
    IsTrue old.noted → CanChangeAll beside changes old.bag
    → LeavesOnly old.trail new.trail old.bag (after_changes changes old.bag)

-- So it is where an earlier program was killed before them: what a cut leaves before their first
-- sync is answered could have been left before them.
abbrev pub OutlastsResumedChanges : Name → List FileChange → TreeState → TreeState → Type 0
OutlastsResumedChanges beside changes old new =
    IsTrue old.noted → CanChangeAll beside changes old.bag
    → EachResumedCut beside old.trail new.trail old.bag (IsAfterFirst beside changes old.bag)

abbrev pub LastsResumed : Name → List FileChange → TreeState → TreeState → Type 0
LastsResumed beside changes old new =
    IsTrue old.noted → CanChangeAll beside changes old.bag → changes ≢ []
    → ResumedLeavesOnly beside old.trail new.trail old.bag (after_changes changes old.bag)
