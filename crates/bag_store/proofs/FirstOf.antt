-- What is first asked of what something else asks.
use Rattle.std.proofs.Common.{◌≡◌, ◌++◌, ◌∷◌, ◌∙◌, inl, inr, ℕ, IsTrue, List, [], Ok, Err, OnErr, map, refl, sym}
use Rattle.std.proofs.Common.{ap, subst, append-nil, append_assoc}
use Rattle.std.specs.Prelude.{Result}
use Rattle.bag_tree.proofs.Runs.{both_nothing, first_change_nothing, front_of_map, front_of_two, syncs_alone}
use Rattle.bag_tree.specs.Asked.{Adds, Asking, AsksFile, ChangeNothing, MayBegin}
use Rattle.bag_tree.specs.FileChanges.{AsksFirstOf, AsksPut, AsksRemove}
use Rattle.bag_tree.specs.declared.event.DeviceEvent.{DeviceEvent}
use Rattle.bag_tree.specs.declared.event.DeviceEvent.TheVariants as event
use Rattle.bag_disk.specs.Disk.{DiskState}
use Rattle.bag_disk.specs.DiskNodes.{OnlyLooks, OnlySyncs}
use Rattle.bag_disk.specs.WritableDisk.{Notes}
use Rattle.bag_disk.specs.declared.refusal.Refusal.{Refusal}
use Rattle.bag_store.specs.Asking.{AsksOfDisk}
use Rattle.bag_store.proofs.AskedOf.{Answer, NotesIt}

-- nothing is first
pub none_first : (P : Asking) (before all : List DeviceEvent) → P before all → AsksFirstOf P before []
none_first P before all asks =
    record { first = []; rest = all; asked = asks; refused = []; are_refused = tt; is = refl }

-- these are, and then others
pub first_and : (P : Asking) (before first rest : List DeviceEvent) → P before (first ++ rest)
    → AsksFirstOf P before first
first_and P before first rest asks = record {
  first = first;
  rest = rest;
  asked = asks;
  refused = [];
  are_refused = tt;
  is = sym (append-nil first);
}

-- the first of what comes after one event in something longer
pub first_of_longer : (P Q : Asking) (b c : List DeviceEvent) (e : DeviceEvent) (tail now : List DeviceEvent)
    → ((all : List DeviceEvent) → P b all → Q c (e ∷ (all ++ tail))) → AsksFirstOf P b now → AsksFirstOf Q c (e ∷ now)
first_of_longer P Q b c e tail now longer some = record {
  first = e ∷ some.first;
  rest = some.rest ++ tail;
  asked =
      subst (λ (xs : List DeviceEvent). Q c (e ∷ xs)) (append_assoc some.first some.rest tail)
      (longer (some.first ++ some.rest) some.asked);
  refused = some.refused;
  are_refused = some.are_refused;
  is = ap (λ (xs : List DeviceEvent). e ∷ xs) some.is;
}

-- the first of what the making of a file asks: syncs, or a file that is begun
module _ (name bytes : List ℕ) (before now : List DeviceEvent) (some : AsksFirstOf (AsksFile name bytes) before now)
  where
    abbrev file : AsksFile name bytes before (some.first ++ some.rest)
    file = some.asked

    abbrev begun : List DeviceEvent
    begun = event.Create name ∷ map (event.Write name) file.pieces

    abbrev tail : List DeviceEvent
    tail = event.Sync name ∷ event.SyncFolder [] ∷ []

    nothing_yet : ChangeNothing some.first → MayBegin name before now
    nothing_yet are =
        inl (subst ChangeNothing (sym some.is) (both_nothing some.first some.refused are some.are_refused))

    of_begun : (more rest : List DeviceEvent) → some.first ≡ file.syncs ++ more → begun ≡ more ++ rest
        → MayBegin name before now
    of_begun [] rest first_is begun_is =
        nothing_yet (subst ChangeNothing (sym (first_is ∙ append-nil file.syncs))
        (syncs_alone file.syncs file.are_syncs))
    of_begun (e ∷ more) rest first_is begun_is =
        let same : e ≡ event.Create name = cc in
        let rest_is : map (event.Write name) file.pieces ≡ more ++ rest = cc in
        let writes = front_of_map (event.Write name) file.pieces more rest rest_is in
        inr (record {
          syncs = file.syncs;
          are_syncs = file.are_syncs;
          pieces = writes.0;
          after = some.refused;
          are_after = some.are_refused;
          asked =
              some.is ∙ ap (λ (xs : List DeviceEvent). xs ++ some.refused)
              (first_is ∙ ap (λ (xs : List DeviceEvent). file.syncs ++ xs) (λ i. same i ∷ writes.1 i));
        })

    pub may_begin : MayBegin name before now
    may_begin = elim (front_of_two (file.syncs ++ begun) tail some.first some.rest (sym file.asked)) [
      | inl (rest, made_is) ↦ elim (front_of_two file.syncs begun some.first rest made_is) [
        | inl (rest', syncs_is) ↦
            nothing_yet (first_change_nothing some.first rest'
            (subst ChangeNothing syncs_is (syncs_alone file.syncs file.are_syncs)))
        | inr (more, rest', first_is, begun_is) ↦ of_begun more rest' first_is begun_is
      ]
      | inr (more, rest, first_is, tail_is) ↦ inr (record {
        syncs = file.syncs;
        are_syncs = file.are_syncs;
        pieces = file.pieces;
        after = more ++ some.refused;
        are_after =
            both_nothing more some.refused
            (first_change_nothing more rest (subst ChangeNothing tail_is (tt, (tt, tt)))) some.are_refused;
        asked =
            some.is ∙ ap (λ (xs : List DeviceEvent). xs ++ some.refused) first_is
            ∙ append_assoc (file.syncs ++ begun) more some.refused;
      })
    ]

pub begun_adds : (name bytes : List ℕ) (old new : DiskState)
    → Adds (AsksFirstOf (AsksFile name bytes)) old.trail new.trail → Adds (MayBegin name) old.trail new.trail
begun_adds name bytes old new adds =
    record { now = adds.now; trail = adds.trail; is = may_begin name bytes old.trail adds.now adds.is }

pub begun_asked : (name bytes : List ℕ) (old new : DiskState) (done : Result (Unit {0}) Refusal)
    → AsksOfDisk (AsksFile name bytes) (AsksFirstOf (AsksFile name bytes)) old new done
    → AsksOfDisk (AsksFile name bytes) (MayBegin name) old new done
begun_asked name bytes old new (Ok done) asked noted = asked noted
begun_asked name bytes old new (Err refusal) asked noted = begun_adds name bytes old new (asked noted)

-- a file that is made after a sync of the base folder is put by two events more
pub put_of_file : (beside name bytes : List ℕ) (b c all : List DeviceEvent) → AsksFile beside bytes b all
    → AsksPut beside name bytes c
    (event.SyncFolder [] ∷ (all ++ event.Rename beside name ∷ event.SyncFolder [] ∷ []))
put_of_file beside name bytes b c all file = record {
  syncs = file.syncs;
  are_syncs = file.are_syncs;
  pieces = file.pieces;
  whole = file.whole;
  asked =
      ap (λ (xs : List DeviceEvent). event.SyncFolder [] ∷ xs)
      (ap (λ (xs : List DeviceEvent). xs ++ event.Rename beside name ∷ event.SyncFolder [] ∷ []) file.asked
      ∙ append_assoc (file.syncs ++ event.Create beside ∷ map (event.Write beside) file.pieces)
      (event.Sync beside ∷ event.SyncFolder [] ∷ []) (event.Rename beside name ∷ event.SyncFolder [] ∷ []));
}

one_put : (beside name bytes : List ℕ) (before : List DeviceEvent)
    → (all : List DeviceEvent) × AsksPut beside name bytes before all
one_put beside name bytes before = (
  _,
  record { syncs = []; are_syncs = tt; pieces = bytes ∷ []; whole = append-nil bytes; asked = refl },
)

-- what comes after the sync
after_sync : (old seen new : List DeviceEvent) (e : DeviceEvent) (now : List DeviceEvent) → seen ≡ old ++ e ∷ []
    → new ≡ seen ++ now → new ≡ old ++ (e ∷ now)
after_sync old seen new e now first then =
    then ∙ ap (λ (xs : List DeviceEvent). xs ++ now) first ∙ append_assoc old (e ∷ []) now

module _ (beside name bytes : List ℕ) where
  abbrev rename : DeviceEvent
  rename = event.Rename beside name

  abbrev base : DeviceEvent
  base = event.SyncFolder []

  -- nothing but looks, before a file was made
  pub put_not_begun : (old new : DiskState) → OnlyLooks old new → IsTrue old.noted
      → Adds (AsksFirstOf (AsksPut beside name bytes)) old.trail new.trail
  put_not_begun old new looks noted =
      let one = one_put beside name bytes old.trail in record {
        now = [];
        trail = looks.trail ∙ sym (append-nil old.trail);
        is = none_first (AsksPut beside name bytes) old.trail one.0 one.1;
      }

  -- the base folder was synced, and the making of the file was refused
  pub put_begun : (old seen new : DiskState) → OnlySyncs old seen → (IsTrue old.noted → Notes base old seen)
      → (IsTrue seen.noted → Adds (AsksFirstOf (AsksFile beside bytes)) seen.trail new.trail) → IsTrue old.noted
      → Adds (AsksFirstOf (AsksPut beside name bytes)) old.trail new.trail
  put_begun old seen new ready synced adds noted =
      let file = adds (ready.noted ∙ noted) in record {
        now = base ∷ file.now;
        trail = after_sync old.trail seen.trail new.trail base file.now (synced noted) file.trail;
        is =
            first_of_longer (AsksFile beside bytes) (AsksPut beside name bytes) seen.trail old.trail base
            (rename ∷ base ∷ []) file.now (put_of_file beside name bytes seen.trail old.trail) file.is;
      }

  module _ (old seen made : DiskState) (ready : OnlySyncs old seen) (synced : IsTrue old.noted → Notes base old seen)
      (adds : IsTrue seen.noted → Adds (AsksFile beside bytes) seen.trail made.trail) where
    -- it was made, and not given its name
    pub put_made : (new : DiskState) → OnlyLooks made new → IsTrue old.noted
        → Adds (AsksFirstOf (AsksPut beside name bytes)) old.trail new.trail
    put_made new two noted =
        let file = adds (ready.noted ∙ noted) in record {
          now = base ∷ file.now;
          trail = two.trail ∙ after_sync old.trail seen.trail made.trail base file.now (synced noted) file.trail;
          is =
              first_and (AsksPut beside name bytes) old.trail (base ∷ file.now) (rename ∷ base ∷ [])
              (put_of_file beside name bytes seen.trail old.trail file.now file.is);
        }

    -- it was given its name, and the base folder was synced or not
    pub put_asked : (put new : DiskState) (r : Answer) → made.noted ≡ seen.noted
        → (IsTrue made.noted → Notes rename made put) → put.noted ≡ made.noted → NotesIt base put new r
        → OnErr r (OnlyLooks put new)
        → AsksOfDisk (AsksPut beside name bytes) (AsksFirstOf (AsksPut beside name bytes)) old new r
    put_asked put new (Ok u) same notes again base_notes stays noted =
        let file = adds (ready.noted ∙ noted) in
        let is_noted = same ∙ ready.noted ∙ noted in
        record {
          now = base ∷ (file.now ++ rename ∷ base ∷ []);
          trail =
              base_notes (again ∙ is_noted)
              ∙ ap (λ (xs : List DeviceEvent). xs ++ base ∷ [])
              (notes is_noted ∙ ap (λ (xs : List DeviceEvent). xs ++ rename ∷ [])
              (after_sync old.trail seen.trail made.trail base file.now (synced noted) file.trail))
              ∙ in_a_row old.trail (base ∷ file.now);
          is = put_of_file beside name bytes seen.trail old.trail file.now file.is;
        }
      where
        in_a_row : (a b : List DeviceEvent)
            → ((a ++ b) ++ rename ∷ []) ++ base ∷ [] ≡ a ++ (b ++ rename ∷ base ∷ [])
        in_a_row a b = simp append_assoc
    put_asked put new (Err f) same notes again base_notes stays noted =
        let file = adds (ready.noted ∙ noted) in
        let first = base ∷ file.now in
        record {
          now = first ++ rename ∷ [];
          trail =
              stays.trail
              ∙ notes (same ∙ ready.noted ∙ noted) ∙ ap (λ (xs : List DeviceEvent). xs ++ rename ∷ [])
              (after_sync old.trail seen.trail made.trail base file.now (synced noted) file.trail)
              ∙ append_assoc old.trail first (rename ∷ []);
          is =
              first_and (AsksPut beside name bytes) old.trail (first ++ rename ∷ []) (base ∷ [])
              (subst (AsksPut beside name bytes old.trail) (sym (append_assoc first (rename ∷ []) (base ∷ [])))
              (put_of_file beside name bytes seen.trail old.trail file.now file.is));
        }

module _ (name : List ℕ) where
  abbrev first : DeviceEvent
  first = event.SyncFolder []

  one_remove : (before : List DeviceEvent)
      → AsksRemove name before (first ∷ event.Remove name ∷ first ∷ [])
  one_remove before = record { syncs = []; are_syncs = tt; asked = refl }

  -- nothing but looks, before the file was removed
  pub not_removed : (old new : DiskState) → OnlyLooks old new → IsTrue old.noted
      → Adds (AsksFirstOf (AsksRemove name)) old.trail new.trail
  not_removed old new looks noted = record {
    now = [];
    trail = looks.trail ∙ sym (append-nil old.trail);
    is = none_first (AsksRemove name) old.trail _ (one_remove old.trail);
  }

  -- the base folder was synced, and no more
  pub not_removed_synced : (old seen new : DiskState) → (IsTrue old.noted → Notes first old seen)
      → OnlyLooks seen new → IsTrue old.noted → Adds (AsksFirstOf (AsksRemove name)) old.trail new.trail
  not_removed_synced old seen new synced looks noted = record {
    now = first ∷ [];
    trail = looks.trail ∙ synced noted;
    is =
        first_and (AsksRemove name) old.trail (first ∷ []) (event.Remove name ∷ first ∷ []) (one_remove old.trail);
  }

  -- it was removed, and the base folder was synced or not
  pub remove_asked : (old seen gone new : DiskState) (r : Answer) → OnlySyncs old seen
      → (IsTrue old.noted → Notes first old seen)
      → (IsTrue seen.noted → Notes (event.Remove name) seen gone) → gone.noted ≡ seen.noted
      → NotesIt first gone new r → OnErr r (OnlyLooks gone new)
      → AsksOfDisk (AsksRemove name) (AsksFirstOf (AsksRemove name)) old new r
  remove_asked old seen gone new (Ok u) ready synced notes same base_notes stays noted =
      let is_noted = ready.noted ∙ noted in record {
        now = first ∷ event.Remove name ∷ first ∷ [];
        trail =
            base_notes (same ∙ is_noted) ∙ ap (λ (xs : List DeviceEvent). xs ++ first ∷ [])
            (after_sync old.trail seen.trail gone.trail first (event.Remove name ∷ []) (synced noted) (notes is_noted))
            ∙ append_assoc old.trail (first ∷ event.Remove name ∷ []) (first ∷ []);
        is = one_remove old.trail;
      }
  remove_asked old seen gone new (Err f) ready synced notes same base_notes stays noted =
      let is_noted = ready.noted ∙ noted in record {
        now = first ∷ event.Remove name ∷ [];
        trail =
            stays.trail
            ∙ after_sync old.trail seen.trail gone.trail first (event.Remove name ∷ []) (synced noted)
            (notes is_noted);
        is =
            first_and (AsksRemove name) old.trail (first ∷ event.Remove name ∷ []) (first ∷ [])
            (one_remove old.trail);
      }
