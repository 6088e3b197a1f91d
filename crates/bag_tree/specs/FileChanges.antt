-- Changes of single files of a base folder, one after another.
use Rattle.std.specs.Prelude.{ℕ, ◌≡◌, ◌≢◌, ◌≤◌, ◌++◌, ◌⊎◌, false, IsTrue, List, [], ◌∷◌, Some}
use Rattle.std.specs.Prelude.{fold, length, map, take, ⊤}
use Rattle.bag_text.specs.Bytes.{Content, Name, Path}
use Rattle.bag_text.specs.Path.{is_base_name, under}
use Rattle.bag_tree.specs.Asked.{AreSyncs, Asking, ChangeNothing, joined}
use Rattle.bag_tree.specs.Bag.{Bag, file, has_folder}
use Rattle.bag_tree.specs.Cut.{MayLeave, lose}
use Rattle.bag_tree.specs.Steps.{create, has_within}
use Rattle.bag_tree.specs.declared.event.DeviceEvent.{DeviceEvent}
use Rattle.bag_tree.specs.declared.event.DeviceEvent.TheVariants as event
use Rattle.bag_tree.specs.declared.file_change.FileChange.{FileChange}
use Rattle.bag_tree.specs.declared.file_change.FileChange.TheVariants.{Put, Remove}

-- each change is a function on bags
abbrev pub changed : FileChange → Bag → Bag
changed (Put name bytes) bag = create name bytes bag
changed (Remove name) bag = lose name bag

-- the bag after these changes
abbrev pub after_changes : List FileChange → Bag → Bag
after_changes changes bag = fold (λ b change. changed change b) bag changes

-- no folder has the name, and nothing stands below it
pub record IsNoFolder (bag : Bag) (name : Name) : Type 0 where
  pub absent : has_folder bag name ≡ false
  pub below : (rest : Path) (content : Content) → file bag (under name rest) ≡ Some content → ⊥

-- nothing has the name
pub record IsFree (bag : Bag) (name : Name) : Type 0 where
  pub no_folder : has_folder bag name ≡ false
  pub no_file : has_within bag name ≡ false

-- the change can be made: nothing has the name that a file has while it is written, and no folder
-- is in the way
abbrev pub CanChange : Name → FileChange → Bag → Type 0
CanChange beside (Put name bytes) bag =
    IsTrue (is_base_name name) × (beside ≢ name) × IsFree bag beside × IsNoFolder bag name
CanChange beside (Remove name) bag = IsTrue (is_base_name name)

-- each of these changes can be made after those before it
abbrev pub CanChangeAll : Name → List FileChange → Bag → Type 0
CanChangeAll beside [] bag = ⊤
CanChangeAll beside (change ∷ changes) bag =
    CanChange beside change bag × CanChangeAll beside changes (changed change bag)

-- The base folder is synced, so that the names are durable that an earlier run gave. A file is
-- written beside, and its bytes and its name there are durable before it is given the name that it
-- is to have. That is durable when the call is answered.
pub record AsksPut (beside name : Name) (bytes : Content)
    (before now : List DeviceEvent) : Type 0 where
  pub syncs : List DeviceEvent
  pub are_syncs : AreSyncs syncs
  pub pieces : List (List ℕ)
  pub whole : joined pieces ≡ bytes
  pub asked : now ≡ event.SyncFolder [] ∷ syncs ++ event.Create beside
      ∷ map (event.Write beside) pieces ++ event.Sync beside ∷ event.SyncFolder []
      ∷ event.Rename beside name ∷ event.SyncFolder [] ∷ []

-- The base folder is synced, and then a file is removed, and that is durable when the call is
-- answered.
pub record AsksRemove (name : Name) (before now : List DeviceEvent) : Type 0 where
  pub syncs : List DeviceEvent
  pub are_syncs : AreSyncs syncs
  pub asked : now ≡ event.SyncFolder [] ∷ syncs ++ event.Remove name ∷ event.SyncFolder [] ∷ []

-- what a change asks of the device, where a file is written at this name beside the others
abbrev pub ChangeAsks : Name → FileChange → Asking
ChangeAsks beside (Put name bytes) = AsksPut beside name bytes
ChangeAsks beside (Remove name) = AsksRemove name

-- what changes ask that are made one after another
abbrev pub ChangesAsk : Name → List FileChange → Asking
ChangesAsk beside [] before events = events ≡ []
ChangesAsk beside (change ∷ changes) before events =
    (now : List DeviceEvent) × (later : List DeviceEvent) × (events ≡ now ++ later)
    × ChangeAsks beside change before now × ChangesAsk beside changes (before ++ now) later

-- The first of the events that something else asks, and then perhaps a sync that was refused: what
-- a call asked that was refused.
pub record AsksFirstOf (asks : Asking) (before now : List DeviceEvent) : Type 0 where
  pub first : List DeviceEvent
  pub rest : List DeviceEvent
  pub asked : asks before (first ++ rest)
  pub refused : List DeviceEvent
  pub are_refused : ChangeNothing refused
  pub is : now ≡ first ++ refused

-- the bag, or it with a file begun beside the others
abbrev pub IsPerhapsWithBegun : Name → Bag → Bag → Type 0
IsPerhapsWithBegun beside bag left =
    (left ≡ bag) ⊎ ((found : List ℕ) × (left ≡ create beside found bag))

-- the bag after the first k of these changes, for some k, and perhaps a file begun beside them
pub record IsAfterFirst (beside : Name) (changes : List FileChange) (bag left : Bag) : Type 0
  where
    pub k : ℕ
    pub within : k ≤ length changes
    pub is : IsPerhapsWithBegun beside (after_changes (take k changes) bag) left

-- the law: a power cut at any moment of such changes leaves the bag after the first of them
abbrev pub CutsLeaveFirstChanges : Type 0
CutsLeaveFirstChanges =
    (beside : Name) (changes : List FileChange) (bag : Bag) (before events : List DeviceEvent)
    → IsTrue (is_base_name beside) → CanChangeAll beside changes bag
    → AsksFirstOf (ChangesAsk beside changes) before events
    → (front back : List DeviceEvent) → events ≡ front ++ back
    → (left : Bag) → MayLeave front bag left → IsAfterFirst beside changes bag left

-- the law: a power cut after all of them leaves what they make, and nothing else
abbrev pub ChangesAreDurable : Type 0
ChangesAreDurable =
    (beside : Name) (changes : List FileChange) (bag : Bag) (before events : List DeviceEvent)
    → IsTrue (is_base_name beside) → CanChangeAll beside changes bag
    → ChangesAsk beside changes before events
    → (left : Bag) → MayLeave events bag left → left ≡ after_changes changes bag
