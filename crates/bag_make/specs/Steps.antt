-- The steps in which a bag is made, and what they leave.
use Rattle.std.specs.Prelude.{ℕ, ◌≡◌, ◌⊎◌, ◌≤◌, ◌-◌, ◌++◌, true, IsTrue, List, [], ◌∷◌, Some, codes}
use Rattle.std.specs.Prelude.{fold, take, slice_get, ⊤}
use Rattle.bag_text.specs.Bytes.{Name}
use Rattle.bag_text.specs.Path.{under}
use Rattle.bag_tree.specs.Asked.{Adds, Asking, AsksFile, AsksFolder, AsksMove, AsksRename}
use Rattle.bag_tree.specs.Asked.{AsksSyncs, MayBegin}
use Rattle.bag_tree.specs.Bag.{Bag}
use Rattle.bag_tree.specs.Tree.{TreeState}
use Rattle.bag_tree.specs.declared.event.DeviceEvent.{DeviceEvent}
use Rattle.bag_tree.specs.declared.answer.Answer.TheVariants.{Refused}
use Rattle.bag_tree.specs.declared.tree_fault.TreeFault.{TreeFault}
use Rattle.bag_tree.specs.Changes.{LeavesPartialFile, IsUnchanged, MayRefuseChange}
use Rattle.bag_tree.specs.Steps.{make_folder, move_in, rename_folder, create, is_taken, has_within}
use Rattle.bag_tree.specs.Steps.{lacks_folder, lacks_source}
use Rattle.bag_make.specs.Made.{data_folder}
use Rattle.bag_make.specs.declared.step.Step.{Step}
use Rattle.bag_make.specs.declared.step.Step.TheVariants.{MakeFolder, MoveIn, Rename, Create}
use Rattle.bag_tree.specs.declared.changing_files.RefusedChange.{RefusedChange}

-- the folder that holds the files while they are moved
abbrev pub new_folder : Name
new_folder = codes ".bagit-new"

-- each step is a function on bags
abbrev pub change : Step → Bag → Bag
change MakeFolder bag = make_folder new_folder bag
change (MoveIn top) bag = move_in top new_folder bag
change Rename bag = rename_folder new_folder data_folder bag
change (Create name bytes) bag = create name bytes bag

-- the bag after these steps
abbrev pub after_steps : List Step → Bag → Bag
after_steps steps bag = fold (λ b step. change step b) bag steps

-- the step can be taken on a bag: what it moves is there, and nothing stands where it puts it
abbrev pub CanTake : Step → Bag → Type 0
CanTake MakeFolder bag = ¬ (is_taken bag new_folder ≡ true)
CanTake (MoveIn top) bag =
    ¬ (lacks_source bag top new_folder ≡ true) × ¬ (has_within bag (under new_folder top) ≡ true)
CanTake Rename bag = ¬ (lacks_folder bag new_folder ≡ true) × ¬ (is_taken bag data_folder ≡ true)
CanTake (Create name bytes) bag = ¬ (is_taken bag name ≡ true)

-- each of these steps can be taken after those before it
abbrev pub CanTakeAll : List Step → Bag → Type 0
CanTakeAll [] bag = ⊤
CanTakeAll (step ∷ steps) bag = CanTake step bag × CanTakeAll steps (change step bag)

-- how many files and folders more there may be after the step
abbrev pub more : Step → ℕ
more MakeFolder = 1
more (MoveIn top) = 0
more Rename = 0
more (Create name bytes) = 1

-- a step that is refused changes nothing, but that a file may be begun
abbrev pub HasLeft : Step → TreeState → TreeState → Type 0
HasLeft (Create name bytes) old new = IsUnchanged old new ⊎ LeavesPartialFile name bytes old new
HasLeft step old new = IsUnchanged old new

-- what a step asks of the device
abbrev pub StepAsks : Step → Asking
StepAsks MakeFolder = AsksFolder new_folder
StepAsks (MoveIn top) = AsksMove top new_folder
StepAsks Rename = AsksRename new_folder data_folder
StepAsks (Create name bytes) = AsksFile name bytes

-- what a step asks that is refused: syncs alone, but that a file may be begun
abbrev pub RefusedAsks : Step → Asking
RefusedAsks (Create name bytes) = MayBegin name
RefusedAsks step = AsksSyncs

-- what steps ask that are taken one after another
abbrev pub AllAsk : List Step → Asking
AllAsk [] before events = events ≡ []
AllAsk (step ∷ steps) before events =
    (now : List DeviceEvent) × (later : List DeviceEvent) × (events ≡ now ++ later)
    × StepAsks step before now × AllAsk steps (before ++ now) later

-- a step may answer this refusal: of an honest tree NotFound and Exists only where they are so
abbrev pub MayRefuseStep : Step → TreeState → TreeState → TreeFault → Type 0
MayRefuseStep MakeFolder old new = MayRefuseChange ⊥ (is_taken old.bag new_folder ≡ true) old new
MayRefuseStep (MoveIn top) old new =
    MayRefuseChange (lacks_source old.bag top new_folder ≡ true)
    (has_within old.bag (under new_folder top) ≡ true) old new
MayRefuseStep Rename old new =
    MayRefuseChange (lacks_folder old.bag new_folder ≡ true) (is_taken old.bag data_folder ≡ true)
    old new
MayRefuseStep (Create name bytes) old new = MayRefuseChange ⊥ (is_taken old.bag name ≡ true) old new

-- These steps were taken. The bag of an honest tree is then the steps' bag, each step could be
-- taken, the device didn't fail, it was asked for what the steps ask, and no file was listed or
-- opened.
pub record HasTaken (steps : List Step) (old new : TreeState) : Type 0 where
  pub bag : IsTrue old.honest → new.bag ≡ after_steps steps old.bag
  pub possible : IsTrue old.honest → CanTakeAll steps old.bag
  pub plain : IsTrue old.honest → IsTrue old.plain → IsTrue new.plain
  pub honest : new.honest ≡ old.honest
  pub no_failure : new.failures ≡ old.failures
  pub openings : new.openings ≡ old.openings
  pub listed : new.listed ≡ old.listed
  pub gave : new.gave ≡ old.gave
  pub noted : new.noted ≡ old.noted
  pub asked : IsTrue old.noted → Adds (AllAsk steps) old.trail new.trail

-- All steps before this one were taken, and this one was refused, as the tree answered. It left
-- nothing, but that a file may be begun, and asked for no more than that.
pub record HasStopped (steps : List Step) (old new : TreeState) (refusal : RefusedChange) : Type 0 where
  pub first : 1 ≤ refusal.place
  pub step : Step
  pub place : slice_get steps (refusal.place - 1) ≡ Some step
  pub before : TreeState
  pub taken : HasTaken (take (refusal.place - 1) steps) old before
  pub left : HasLeft step before new
  pub refused : MayRefuseStep step before new refusal.cause
  pub answered : new.last ≡ Refused refusal.cause
  pub asked : IsTrue before.noted → Adds (RefusedAsks step) before.trail new.trail
