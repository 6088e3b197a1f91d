-- What calls of a disk ask together.
use Rattle.std.proofs.Common.{◌≡◌, ◌++◌, ◌∷◌, ◌∙◌, ℕ, IsTrue, List, [], Result, Ok, Err, OnOk, OnErr, refl, sym, ap}
use Rattle.std.proofs.Common.{subst, append_assoc}
use Rattle.bag_text.specs.Path.{under}
use Rattle.bag_tree.proofs.Added.{nothing_added, one_sync, same_syncs}
use Rattle.bag_tree.proofs.Events.{durable_at_end, same_name}
use Rattle.bag_tree.proofs.Runs.{syncs_alone}
use Rattle.std.proofs.lemmas.Bool.{and_from, or_left, or_right}
use Rattle.bag_tree.specs.Asked.{Adds, AsksFolder, AsksMove, AsksRename, AsksSyncs, has_durable_folders}
use Rattle.bag_tree.specs.declared.event.DeviceEvent.{DeviceEvent}
use Rattle.bag_tree.specs.declared.event.DeviceEvent.TheVariants as event
use Rattle.bag_disk.specs.Disk.{DiskState, Nodes}
use Rattle.bag_disk.specs.DiskNodes.{OnlyLooks, OnlySyncs}
use Rattle.bag_disk.specs.WritableDisk.{Notes}
use Rattle.bag_disk.specs.declared.refusal.Refusal.{Refusal}
use Rattle.bag_store.specs.Asking.{AsksAnsweredSyncs, AsksOfDisk, HasDurableFolders, SyncsBoth}

abbrev pub Answer : Type 0
Answer = Result (Unit {0}) Refusal

-- a call noted this, where it was answered
abbrev pub NotesIt : DeviceEvent → DiskState → DiskState → Answer → Type 0
NotesIt e old new answer = IsTrue old.noted → OnOk answer (Notes e old new)

-- on the way
pub looked : (old new : DiskState) → OnlyLooks old new → OnlySyncs old new
looked old new looks =
    record {
      nodes = looks.nodes;
      honest = looks.honest;
      openings = looks.openings;
      rest = looks.rest;
      noted = looks.noted;
    }

pub syncs_on : (old at new : DiskState) → OnlySyncs old at → OnlySyncs at new → OnlySyncs old new
syncs_on old at new one two = record {
  nodes = two.nodes ∙ one.nodes;
  honest = two.honest ∙ one.honest;
  openings = two.openings ∙ one.openings;
  rest = two.rest ∙ one.rest;
  noted = two.noted ∙ one.noted;
}

-- what an honest disk has then it had before
pub had_synced : (old mid : DiskState) → OnlySyncs old mid → (P : Nodes → Type 0) → (IsTrue mid.honest → P mid.nodes)
    → IsTrue old.honest → P old.nodes
had_synced old mid syncs P then honest = subst P syncs.nodes (then (syncs.honest ∙ honest))

added_next : (first syncs before after : List DeviceEvent) (e : DeviceEvent) → before ≡ first ++ syncs
    → after ≡ before ++ e ∷ [] → after ≡ first ++ (syncs ++ e ∷ [])
added_next first syncs before after e is then =
    then ∙ ap (λ (xs : List DeviceEvent). xs ++ e ∷ []) is ∙ append_assoc first syncs (e ∷ [])

-- a sync
pub sync_asked : (folder : List ℕ) (old new : DiskState) (r : Answer) → NotesIt (event.SyncFolder folder) old new r
    → OnErr r (OnlyLooks old new) → AsksOfDisk AsksAnsweredSyncs AsksSyncs old new r
sync_asked folder old new (Ok u) notes same noted =
    record { now = event.SyncFolder folder ∷ []; trail = notes noted; is = (tt, tt) }
sync_asked folder old new (Err f) notes same noted = nothing_added AsksSyncs old.trail new.trail same.trail tt

pub base_synced : (old new : DiskState) (r : Answer) → OnlySyncs old new → NotesIt (event.SyncFolder []) old new r
    → OnOk r (HasDurableFolders new)
base_synced old new (Ok u) syncs notes = λ noted.
    ap has_durable_folders (notes (sym syncs.noted ∙ noted)) ∙ durable_at_end old.trail
base_synced old new (Err f) syncs notes = tt

pub both_asked : (folder : List ℕ) (old mid new : DiskState) (r : Answer) → OnlySyncs old mid
    → (IsTrue old.noted → Notes (event.SyncFolder folder) old mid) → NotesIt (event.SyncFolder []) mid new r
    → OnErr r (OnlyLooks mid new)
    → AsksOfDisk (SyncsBoth folder) AsksSyncs old new r
both_asked folder old mid new (Ok u) syncs one two same noted = record {
  now = event.SyncFolder folder ∷ event.SyncFolder [] ∷ [];
  trail =
      added_next old.trail (event.SyncFolder folder ∷ []) mid.trail new.trail (event.SyncFolder []) (one noted)
      (two (syncs.noted ∙ noted));
  is = refl;
}
both_asked folder old mid new (Err f) syncs one two same noted =
    same_syncs old.trail mid.trail new.trail (one_sync (event.SyncFolder folder) tt old.trail mid.trail (one noted))
    same.trail

-- a refused call that only looked
pub looks_asked : (old new : DiskState) → OnlyLooks old new → IsTrue old.noted → Adds AsksSyncs old.trail new.trail
looks_asked old new looks noted = nothing_added AsksSyncs old.trail new.trail looks.trail tt

-- a folder that is made after a sync
pub folder_asked : (name : List ℕ) (old mid new : DiskState) → OnlySyncs old mid
    → (IsTrue old.noted → Notes (event.SyncFolder []) old mid)
    → (IsTrue mid.noted → Notes (event.MakeFolder name) mid new)
    → IsTrue old.noted → Adds (AsksFolder name) old.trail new.trail
folder_asked name old mid new syncs one two noted = record {
  now = event.SyncFolder [] ∷ event.MakeFolder name ∷ [];
  trail =
      added_next old.trail (event.SyncFolder [] ∷ []) mid.trail new.trail (event.MakeFolder name) (one noted)
      (two (syncs.noted ∙ noted));
  is = record { syncs = event.SyncFolder [] ∷ []; are_syncs = (tt, tt); asked = refl };
}

pub folder_refused : (old mid at new : DiskState) → (IsTrue old.noted → Notes (event.SyncFolder []) old mid)
    → OnlyLooks mid at → OnlyLooks at new → IsTrue old.noted → Adds AsksSyncs old.trail new.trail
folder_refused old mid at new one two three noted =
    same_syncs old.trail mid.trail new.trail (one_sync (event.SyncFolder []) tt old.trail mid.trail (one noted))
    (three.trail ∙ two.trail)

-- a move after syncs
pub move_asked : (top folder : List ℕ) (old mid new : DiskState) (r : Answer) → OnlySyncs old mid
    → (IsTrue old.noted → Adds AsksAnsweredSyncs old.trail mid.trail) → HasDurableFolders mid
    → NotesIt (event.Rename top (under folder top)) mid new r → OnErr r (OnlyLooks mid new)
    → AsksOfDisk (AsksMove top folder) AsksSyncs old new r
move_asked top folder old mid new (Ok u) syncs adds durable notes same noted =
    let so_far = adds noted in
    let now_noted : IsTrue mid.noted = syncs.noted ∙ noted in
    record {
      now = so_far.now ++ event.Rename top (under folder top) ∷ [];
      trail =
          added_next old.trail so_far.now mid.trail new.trail (event.Rename top (under folder top)) so_far.trail
          (notes now_noted);
      is =
          record {
            syncs = so_far.now;
            are_syncs = so_far.is;
            durable = ap has_durable_folders (sym so_far.trail)
                ∙ durable now_noted;
            asked = refl;
          };
    }
move_asked top folder old mid new (Err f) syncs adds durable notes same noted =
    let so_far = adds noted in
    same_syncs old.trail mid.trail new.trail
    (record { now = so_far.now; trail = so_far.trail; is = syncs_alone so_far.now so_far.is }) same.trail

-- to a target that has two names
pub move_noted : (top to target : List ℕ) (old seen new : DiskState) → OnlyLooks old seen → to ≡ target
    → (IsTrue seen.noted → Notes (event.Rename top to) seen new) → IsTrue old.noted
    → Notes (event.Rename top target) old new
move_noted top to target old seen new looks same notes noted =
    notes (looks.noted ∙ noted) ∙ ap (λ (xs : List DeviceEvent). xs ++ event.Rename top to ∷ []) looks.trail
    ∙ ap (λ (path : List ℕ). old.trail ++ event.Rename top path ∷ []) same

-- another name for a folder, after syncs and a look
pub rename_asked : (from to : List ℕ) (old first mid at new : DiskState) → OnlyLooks old first → OnlySyncs first mid
    → (IsTrue first.noted → Adds (SyncsBoth from) first.trail mid.trail) → OnlyLooks mid at
    → (IsTrue at.noted → Notes (event.Rename from to) at new) → IsTrue old.noted
    → Adds (AsksRename from to) old.trail new.trail
rename_asked from to old first mid at new one two adds three notes noted =
    let both = adds (one.noted ∙ noted) in
    let syncs = event.SyncFolder from ∷ event.SyncFolder [] ∷ [] in
    let so_far : at.trail ≡ old.trail ++ syncs =
    three.trail ∙ both.trail ∙ ap (λ (xs : List DeviceEvent). first.trail ++ xs) both.is
    ∙ ap (λ (xs : List DeviceEvent). xs ++ syncs) one.trail in
    record {
      now = syncs ++ event.Rename from to ∷ [];
      trail =
          added_next old.trail syncs at.trail new.trail (event.Rename from to) so_far
          (notes (three.noted ∙ two.noted ∙ one.noted ∙ noted));
      is =
          record {
            syncs = syncs;
            are_syncs = (tt, (tt, tt));
            durable = or_left _ _ (same_name from);
            base_durable = or_right _ _ refl;
            in_turn = or_left _ _ (and_from _ _ (same_name from) refl);
            asked = refl;
          };
    }

pub rename_refused : (from : List ℕ) (old first mid at : DiskState) → OnlyLooks old first
    → (IsTrue first.noted → Adds (SyncsBoth from) first.trail mid.trail) → OnlyLooks mid at → IsTrue old.noted
    → Adds AsksSyncs old.trail at.trail
rename_refused from old first mid at one adds two noted =
    let both = adds (one.noted ∙ noted) in record {
      now = event.SyncFolder from ∷ event.SyncFolder [] ∷ [];
      trail =
          two.trail ∙ both.trail ∙ ap (λ (xs : List DeviceEvent). first.trail ++ xs) both.is
          ∙ ap (λ (xs : List DeviceEvent). xs ++ event.SyncFolder from ∷ event.SyncFolder [] ∷ []) one.trail;
      is = (tt, (tt, tt));
    }

pub syncs_refused : (old first new : DiskState) → OnlyLooks old first
    → (IsTrue first.noted → Adds AsksSyncs first.trail new.trail) → IsTrue old.noted
    → Adds AsksSyncs old.trail new.trail
syncs_refused old first new one adds noted =
    let both = adds (one.noted ∙ noted) in
    record {
      now = both.now;
      trail = both.trail
          ∙ ap (λ (xs : List DeviceEvent). xs ++ both.now) one.trail;
      is = both.is;
    }
