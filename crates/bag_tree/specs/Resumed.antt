-- What a power cut may leave of changes of files that begin where an earlier program was killed.
use Rattle.std.specs.Prelude.{◌≡◌, ◌≢◌, ◌++◌, ◌⊎◌, IsTrue, List, [], ◌∷◌, fold}
use Rattle.bag_text.specs.Bytes.{Content, Name}
use Rattle.bag_text.specs.Path.{is_base_name}
use Rattle.bag_tree.specs.Bag.{Bag}
use Rattle.bag_tree.specs.Cut.{IsDurableAs, MayLeave, done, hold}
use Rattle.bag_tree.specs.FileChanges.{AsksFirstOf, CanChangeAll, ChangesAsk, IsAfterFirst}
use Rattle.bag_tree.specs.FileChanges.{after_changes}
use Rattle.bag_tree.specs.declared.event.DeviceEvent.{DeviceEvent}
use Rattle.bag_tree.specs.declared.event.DeviceEvent.TheVariants.{SyncFolder}
use Rattle.bag_tree.specs.declared.file_change.FileChange.{FileChange}

-- the bag, or it with other bytes in the file of this name
abbrev pub IsSameBut : Name → Bag → Bag → Type 0
IsSameBut beside bag left = (left ≡ bag) ⊎ ((found : Content) × (left ≡ hold beside found bag))

-- Once the base folder is synced this bag is durable, but for the bytes of the file that is written
-- beside the others. So it is of a bag that is durable, and of one that a killed program left which
-- changed its files.
abbrev pub IsDurableOnceSynced : Name → List DeviceEvent → Bag → Bag → Type 0
IsDurableOnceSynced beside trail first bag =
    (left : Bag) → MayLeave (trail ++ SyncFolder [] ∷ []) first left → IsSameBut beside bag left

-- At each moment of the events that were added to a trail, whatever a power cut leaves could have
-- been left before them, or has P. The bag need only be durable once the base folder is synced.
pub record EachResumedCut (beside : Name) (old new : List DeviceEvent) (bag : Bag)
    (P : Bag → Type 0) : Type 0 where
  pub since : List DeviceEvent
  pub trail : new ≡ old ++ since
  pub each : (first : Bag) → IsDurableOnceSynced beside old first bag
      → (before after : List DeviceEvent) → since ≡ before ++ after
      → (left : Bag) → MayLeave (old ++ before) first left → MayLeave old first left ⊎ P left

-- After the events that were added to a trail a power cut leaves this bag, but for the bytes of the
-- file that is written beside the others.
abbrev pub ResumedLeavesOnly : Name → List DeviceEvent → List DeviceEvent → Bag → Bag → Type 0
ResumedLeavesOnly beside old new bag now =
    (first : Bag) → IsDurableOnceSynced beside old first bag
    → (left : Bag) → MayLeave new first left → IsSameBut beside now left

-- the law: a durable bag is durable once the base folder is synced
abbrev pub DurableBagsAreDurableOnceSynced : Type 0
DurableBagsAreDurableOnceSynced =
    (beside : Name) (trail : List DeviceEvent) (first bag : Bag)
    → IsDurableAs trail first bag → IsDurableOnceSynced beside trail first bag

-- the law: a power cut at any moment of such changes leaves what it could have left before them, or
-- the bag after the first of them
abbrev pub ResumedCutsLeaveFirstChanges : Type 0
ResumedCutsLeaveFirstChanges =
    (beside : Name) (changes : List FileChange) (first bag : Bag) (before events : List DeviceEvent)
    → IsTrue (is_base_name beside) → CanChangeAll beside changes bag
    → IsDurableOnceSynced beside before first bag
    → AsksFirstOf (ChangesAsk beside changes) before events
    → (front back : List DeviceEvent) → events ≡ front ++ back
    → (left : Bag) → MayLeave (before ++ front) first left
    → MayLeave before first left ⊎ IsAfterFirst beside changes bag left

-- the law: a power cut after all of them leaves what they make, if there are any
abbrev pub ResumedChangesAreDurable : Type 0
ResumedChangesAreDurable =
    (beside : Name) (changes : List FileChange) (first bag : Bag) (before events : List DeviceEvent)
    → IsTrue (is_base_name beside) → CanChangeAll beside changes bag → changes ≢ []
    → IsDurableOnceSynced beside before first bag → ChangesAsk beside changes before events
    → (left : Bag) → MayLeave (before ++ events) first left
    → IsSameBut beside (after_changes changes bag) left

-- the bag that is there after these events
abbrev pub after_events : List DeviceEvent → Bag → Bag
after_events events bag = fold (λ b event. done event b) bag events

-- the law: wherever a program is killed while it makes such changes, the bag that is there is
-- durable once the base folder is synced, but for the bytes of the file that was begun
abbrev pub KilledChangesAreDurableOnceSynced : Type 0
KilledChangesAreDurableOnceSynced =
    (beside : Name) (changes : List FileChange) (first bag : Bag) (before events : List DeviceEvent)
    → IsTrue (is_base_name beside) → CanChangeAll beside changes bag
    → IsDurableOnceSynced beside before first bag → ChangesAsk beside changes before events
    → (front back : List DeviceEvent) → events ≡ front ++ back
    → IsDurableOnceSynced beside (before ++ front) first (after_events front bag)
