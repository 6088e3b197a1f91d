-- Which events leave the names of folders durable.
use Rattle.std.proofs.Common.{◌≡◌, ◌++◌, ◌||◌, inl, inr, ◌⊎◌, ◌∙◌, ℕ, Bool, true, false, IsTrue, not, map, List, []}
use Rattle.std.proofs.Common.{◌∷◌, bytes_eq, refl, sym, ap, append_assoc}
use Rattle.std.specs.Prelude.{Err, Ok, OnErr, OnOk, Result}
use Rattle.std.proofs.lemmas.Bool.{and_from, and_parts, false≢true, or_cases, or_left, or_right}
use Rattle.bag_text.specs.Path.{under}
use Rattle.bag_tree.proofs.Events.{not_base}
use Rattle.bag_tree.proofs.Runs.{syncs_alone}
use Rattle.bag_tree.specs.Asked.{Adds, AreSyncs, AsksFile, AsksMove, AsksSyncs, ChangeNothing, MayBegin}
use Rattle.bag_tree.specs.Asked.{has_durable_folders, is_base_synced, is_named}
use Rattle.bag_tree.specs.declared.event.DeviceEvent.{DeviceEvent}
use Rattle.bag_disk.specs.Disk.{DiskState}
use Rattle.bag_disk.specs.DiskNodes.{OnlyLooks}
use Rattle.bag_disk.specs.declared.refusal.Refusal.{Refusal}
use Rattle.bag_store.specs.Asking.{AsksOfDisk, HasDurableFolders}
use Rattle.bag_store.specs.Writing.{Begins, Makes}
use Rattle.bag_tree.specs.declared.event.DeviceEvent.TheVariants.{MakeFolder, Rename, Create, Remove, Write, Sync}
use Rattle.bag_tree.specs.declared.event.DeviceEvent.TheVariants.{SyncFolder, SyncRefused}

base_front : (es more : List DeviceEvent) → is_base_synced es ≡ true → is_base_synced (es ++ more) ≡ true
base_front [] more is = absurd (false≢true is)
base_front (SyncFolder f ∷ es) more is =
    elim (or_cases (bytes_eq f []) (is_base_synced es) is)
    [ inl a ↦ or_left _ _ a | inr b ↦ or_right (bytes_eq f []) _ (base_front es more b) ]
base_front (Sync name ∷ es) more is = base_front es more is
base_front (MakeFolder name ∷ es) more is = base_front es more is
base_front (Rename from to ∷ es) more is = base_front es more is
base_front (Create name ∷ es) more is = base_front es more is
base_front (Remove name ∷ es) more is = base_front es more is
base_front (Write name bytes ∷ es) more is = base_front es more is
base_front (SyncRefused path ∷ es) more is = base_front es more is

durable_front : (b : Bool) (es more : List DeviceEvent) → (b || is_base_synced es) ≡ true
    → (b || is_base_synced (es ++ more)) ≡ true
durable_front true es more is = refl
durable_front false es more is = base_front es more is

-- what was durable stays so whatever follows
durable_on : (es more : List DeviceEvent) → has_durable_folders es ≡ true → has_durable_folders more ≡ true
    → has_durable_folders (es ++ more) ≡ true
durable_on [] more one two = two
durable_on (e ∷ es) more one two =
    let parts = and_parts (not (is_named e) || is_base_synced es) (has_durable_folders es) one in
    and_from _ _ (durable_front (not (is_named e)) es more parts.0) (durable_on es more parts.1 two)

-- an event that gives no folder of the base folder its name
one_more : (e : DeviceEvent) (es : List DeviceEvent) → is_named e ≡ false → has_durable_folders es ≡ true
    → has_durable_folders (e ∷ es) ≡ true
one_more e es none durable = and_from _ _ (or_left (not (is_named e)) _ (ap not none)) durable

syncs_are : (es : List DeviceEvent) → ChangeNothing es → has_durable_folders es ≡ true
syncs_are [] are = refl
syncs_are (Sync name ∷ es) are = syncs_are es are.1
syncs_are (SyncFolder folder ∷ es) are = syncs_are es are.1
syncs_are (MakeFolder name ∷ es) are = absurd are.0
syncs_are (Rename from to ∷ es) are = absurd are.0
syncs_are (Create name ∷ es) are = absurd are.0
syncs_are (Remove name ∷ es) are = absurd are.0
syncs_are (Write name bytes ∷ es) are = absurd are.0
syncs_are (SyncRefused path ∷ es) are = syncs_are es are.1

writes_are : (name : List ℕ) (pieces : List (List ℕ)) → has_durable_folders (map (Write name) pieces) ≡ true
writes_are name [] = refl
writes_are name (piece ∷ pieces) = one_more (Write name piece) (map (Write name) pieces) refl (writes_are name pieces)

file_is : (name : List ℕ) (syncs : List DeviceEvent) (pieces : List (List ℕ)) (after : List DeviceEvent)
    → AreSyncs syncs → ChangeNothing after
    → has_durable_folders (syncs ++ Create name ∷ map (Write name) pieces ++ after) ≡ true
file_is name syncs pieces after first last =
    let made = Create name ∷ map (Write name) pieces in
    durable_on (syncs ++ made) after
    (durable_on syncs made (syncs_are syncs (syncs_alone syncs first))
    (one_more (Create name) (map (Write name) pieces) refl (writes_are name pieces))) (syncs_are after last)

module _ (before after : List DeviceEvent) where
  -- after syncs
  pub after_syncs : has_durable_folders before ≡ true → Adds AsksSyncs before after → has_durable_folders after ≡ true
  after_syncs durable adds =
      ap has_durable_folders adds.trail ∙ durable_on before adds.now durable (syncs_are adds.now adds.is)

  -- after a move
  pub after_move : (top folder : List ℕ) → Adds (AsksMove top folder) before after → has_durable_folders after ≡ true
  after_move top folder adds =
      let move = Rename top (under folder top) ∷ [] in
      let all : after ≡ (before ++ adds.is.syncs) ++ move =
      adds.trail ∙ ap (λ (xs : List DeviceEvent). before ++ xs) adds.is.asked
      ∙ sym (append_assoc before adds.is.syncs move) in
      ap has_durable_folders all
      ∙ durable_on (before ++ adds.is.syncs) move adds.is.durable
      (one_more (Rename top (under folder top)) [] (not_base folder top) refl)

  -- after a file was made
  pub after_file : (name bytes : List ℕ) → has_durable_folders before ≡ true → Adds (AsksFile name bytes) before after
      → has_durable_folders after ≡ true
  after_file name bytes durable adds =
      ap has_durable_folders (adds.trail ∙ ap (λ (xs : List DeviceEvent). before ++ xs) adds.is.asked)
      ∙ durable_on before _ durable
      (file_is name adds.is.syncs adds.is.pieces (Sync name ∷ SyncFolder [] ∷ []) adds.is.are_syncs (tt, (tt, tt)))

  -- after a file was begun
  pub after_part : (name : List ℕ) → has_durable_folders before ≡ true → Adds (MayBegin name) before after
      → has_durable_folders after ≡ true
  after_part name durable adds =
      ap has_durable_folders adds.trail ∙ durable_on before adds.now durable (begun adds.now adds.is)
    where
      begun : (now : List DeviceEvent) → MayBegin name before now → has_durable_folders now ≡ true
      begun now (inl syncs) = syncs_are now syncs
      begun now (inr part) =
          ap has_durable_folders part.asked
          ∙ file_is name part.syncs part.pieces part.after part.are_syncs part.are_after

-- of a disk, after a call
module _ (old new : DiskState) (same : new.noted ≡ old.noted) where
  pub moved_durable : (top folder : List ℕ) → (IsTrue old.noted → Adds (AsksMove top folder) old.trail new.trail)
      → HasDurableFolders new
  moved_durable top folder adds noted = after_move old.trail new.trail top folder (adds (sym same ∙ noted))

  pub synced_durable : HasDurableFolders old → (IsTrue old.noted → Adds AsksSyncs old.trail new.trail)
      → HasDurableFolders new
  synced_durable durable adds noted =
      let was : IsTrue old.noted = sym same ∙ noted in after_syncs old.trail new.trail (durable was) (adds was)

  pub file_durable : (name bytes : List ℕ) → HasDurableFolders old
      → (IsTrue old.noted → Adds (AsksFile name bytes) old.trail new.trail) → HasDurableFolders new
  file_durable name bytes durable adds noted =
      let was : IsTrue old.noted =
      sym same ∙ noted in after_file old.trail new.trail name bytes (durable was) (adds was)

  pub part_durable : (name : List ℕ) → HasDurableFolders old
      → (IsTrue old.noted → Adds (MayBegin name) old.trail new.trail) → HasDurableFolders new
  part_durable name durable adds noted =
      let was : IsTrue old.noted = sym same ∙ noted in after_part old.trail new.trail name (durable was) (adds was)

pub left_noted : (old new : DiskState) (name bytes : List ℕ) → OnlyLooks old new ⊎ Begins old new name bytes
    → new.noted ≡ old.noted
left_noted old new name bytes (inl looks) = looks.noted
left_noted old new name bytes (inr begins) = begins.first.closed.noted

-- a file was made, or some of that
pub created_durable : (old new : DiskState) (name bytes : List ℕ) (done : Result (Unit {0}) Refusal)
    → OnOk done (Makes old new name bytes) → OnErr done (OnlyLooks old new ⊎ Begins old new name bytes)
    → AsksOfDisk (AsksFile name bytes) (MayBegin name) old new done → HasDurableFolders old → HasDurableFolders new
created_durable old new name bytes (Ok done) made begun asked durable =
    file_durable old new made.closed.noted name bytes durable asked
created_durable old new name bytes (Err refusal) made begun asked durable =
    part_durable old new (left_noted old new name bytes begun) name durable asked
