-- What the making of a file asks.
use Rattle.std.proofs.Common.{◌≡◌, ◌++◌, ◌∷◌, ◌∙◌, ℕ, IsTrue, List, [], Option, Some, Ok, Err, OnErr, map}
use Rattle.std.proofs.Common.{refl, sym, ap, append-nil, append_assoc}
use Rattle.std.proofs.lemmas.List.{map-append}
use Rattle.bag_tree.proofs.Added.{nothing_added}
use Rattle.bag_tree.specs.Asked.{Adds, AsksFile, joined}
use Rattle.bag_tree.specs.FileChanges.{AsksFirstOf}
use Rattle.bag_tree.specs.declared.event.DeviceEvent.{DeviceEvent}
use Rattle.bag_tree.specs.declared.event.DeviceEvent.TheVariants as event
use Rattle.bag_disk.specs.Disk.{DiskState}
use Rattle.bag_disk.specs.DiskNodes.{OnlyLooks}
use Rattle.bag_disk.specs.WritableDisk.{Notes}
use Rattle.bag_store.specs.Asking.{FillsFile, FillsPart, AsksOfDisk, WritesPieces}
use Rattle.bag_store.proofs.AskedOf.{Answer, NotesIt}
use Rattle.bag_store.proofs.FirstOf.{first_and, none_first}

-- nothing was written yet
pub no_pieces : (path : List ℕ) (trail : List DeviceEvent) → Adds (WritesPieces path []) trail trail
no_pieces path trail =
    record { now = []; trail = sym (append-nil trail); is = record { pieces = []; whole = refl; asked = refl } }

joined-one : (pieces : List (List ℕ)) (piece : List ℕ) → joined (pieces ++ piece ∷ []) ≡ joined pieces ++ piece
joined-one [] piece = append-nil piece
joined-one (p ∷ pieces) piece = ap (λ (xs : List ℕ). p ++ xs) (joined-one pieces piece)
    ∙ sym (append_assoc p (joined pieces) piece)

-- these bytes were written in pieces
abbrev pub HasPieces : Option (List ℕ) → DiskState → DiskState → List ℕ → Type 0
HasPieces written old new bytes = (path : List ℕ) → written ≡ Some path → IsTrue old.noted
    → Adds (WritesPieces path bytes) old.trail new.trail

-- one piece more
pub piece_more : (path first next all : List ℕ) (a b c : List DeviceEvent) → first ++ next ≡ all
    → Adds (WritesPieces path first) a b → c ≡ b ++ event.Write path next ∷ [] → Adds (WritesPieces path all) a c
piece_more path first next all a b c is adds one = record {
  now = adds.now ++ event.Write path next ∷ [];
  trail =
      one ∙ ap (λ (xs : List DeviceEvent). xs ++ event.Write path next ∷ []) adds.trail
      ∙ append_assoc a adds.now (event.Write path next ∷ []);
  is = record {
    pieces = adds.is.pieces ++ next ∷ [];
    whole = joined-one adds.is.pieces next ∙ ap (λ (xs : List ℕ). xs ++ next) adds.is.whole ∙ is;
    asked =
        ap (λ (xs : List DeviceEvent). xs ++ event.Write path next ∷ []) adds.is.asked
        ∙ sym (map-append (event.Write path) adds.is.pieces (next ∷ []));
  };
}

pub next_piece : (first next all : List ℕ) (old mid new : DiskState) (written now : Option (List ℕ))
    → first ++ next ≡ all → HasPieces written old mid first → now ≡ written → mid.noted ≡ old.noted
    → (IsTrue mid.noted → (path : List ℕ) → now ≡ Some path → Notes (event.Write path next) mid new)
    → HasPieces written old new all
next_piece first next all old mid new written now is before same again notes path at noted =
    piece_more path first next all old.trail mid.trail new.trail is (before path at noted)
    (notes (again ∙ noted) path (same ∙ at))

pub whole_pieces : (path first all : List ℕ) (a b : List DeviceEvent) → first ≡ all → Adds (WritesPieces path first) a b
    → Adds (WritesPieces path all) a b
whole_pieces path first all a b is adds =
    record {
      now = adds.now;
      trail = adds.trail;
      is = record { pieces = adds.is.pieces; whole = adds.is.whole ∙ is; asked = adds.is.asked };
    }

-- some pieces, and then a refusal
pub some_pieces : (path first more bytes : List ℕ) (a b c : List DeviceEvent) → first ++ more ≡ bytes
    → Adds (WritesPieces path first) a b → c ≡ b → Adds (FillsPart path bytes) a c
some_pieces path first more bytes a b c joined_is adds same =
    let last = event.Sync path ∷ event.SyncFolder [] ∷ [] in
    record {
      now = adds.now;
      trail = same ∙ adds.trail;
      is = first_and (FillsFile path bytes) a adds.now (event.Write path more ∷ last) (record {
        pieces = adds.is.pieces ++ more ∷ [];
        whole = joined-one adds.is.pieces more ∙ ap (λ (xs : List ℕ). xs ++ more) adds.is.whole ∙ joined_is;
        asked =
            ap (λ (xs : List DeviceEvent). xs ++ event.Write path more ∷ last) adds.is.asked
            ∙ sym (append_assoc (map (event.Write path) adds.is.pieces) (event.Write path more ∷ []) last)
            ∙ ap (λ (xs : List DeviceEvent). xs ++ last)
            (sym (map-append (event.Write path) adds.is.pieces (more ∷ [])));
      });
    }

-- all pieces, and a sync of the file
then_synced : (path : List ℕ) (a b c : List DeviceEvent) (bytes : List ℕ) → (adds : Adds (WritesPieces path bytes) a b)
    → c ≡ b ++ event.Sync path ∷ [] → c ≡ a ++ (map (event.Write path) adds.is.pieces ++ event.Sync path ∷ [])
then_synced path a b c bytes adds one =
    one ∙ ap (λ (xs : List DeviceEvent). xs ++ event.Sync path ∷ [])
    (adds.trail ∙ ap (λ (xs : List DeviceEvent). a ++ xs) adds.is.asked)
    ∙ append_assoc a (map (event.Write path) adds.is.pieces) (event.Sync path ∷ [])

-- and a sync of the base folder
pub file_filled : (path bytes : List ℕ) (old mid synced new : DiskState) (r : Answer)
    → (IsTrue old.noted → Adds (WritesPieces path bytes) old.trail mid.trail) → mid.noted ≡ old.noted
    → synced.noted ≡ mid.noted
    → (IsTrue mid.noted → Notes (event.Sync path) mid synced) → NotesIt (event.SyncFolder []) synced new r
    → OnErr r (OnlyLooks synced new) → AsksOfDisk (FillsFile path bytes) (FillsPart path bytes) old new r
file_filled path bytes old mid synced new (Ok u) adds same again one two looks noted =
    let so_far = adds noted in
    let now_noted : IsTrue mid.noted = same ∙ noted in
    let at = then_synced path old.trail mid.trail synced.trail bytes so_far (one now_noted) in
    let ws = map (event.Write path) so_far.is.pieces in
    record {
      now = ws ++ event.Sync path ∷ event.SyncFolder [] ∷ [];
      trail =
          two (again ∙ now_noted) ∙ ap (λ (xs : List DeviceEvent). xs ++ event.SyncFolder [] ∷ []) at
          ∙ append_assoc old.trail (ws ++ event.Sync path ∷ []) (event.SyncFolder [] ∷ [])
          ∙ ap (λ (xs : List DeviceEvent). old.trail ++ xs)
          (append_assoc ws (event.Sync path ∷ []) (event.SyncFolder [] ∷ []));
      is = record { pieces = so_far.is.pieces; whole = so_far.is.whole; asked = refl };
    }
file_filled path bytes old mid synced new (Err f) adds same again one two looks noted =
    let so_far = adds noted in
    let ws = map (event.Write path) so_far.is.pieces in
    record {
      now = ws ++ event.Sync path ∷ [];
      trail = looks.trail ∙ then_synced path old.trail mid.trail synced.trail bytes so_far (one (same ∙ noted));
      is = first_and (FillsFile path bytes) old.trail (ws ++ event.Sync path ∷ []) (event.SyncFolder [] ∷ []) (record {
        pieces = so_far.is.pieces;
        whole = so_far.is.whole;
        asked = append_assoc ws (event.Sync path ∷ []) (event.SyncFolder [] ∷ []);
      });
    }

-- a file is made and filled
made_first : (a b c : List DeviceEvent) (e : DeviceEvent) (now : List DeviceEvent) → b ≡ a ++ e ∷ [] → c ≡ b ++ now
    → c ≡ a ++ (e ∷ now)
made_first a b c e now one two = two ∙ ap (λ (xs : List DeviceEvent). xs ++ now) one ∙ append_assoc a (e ∷ []) now

file_of_fill : (name bytes : List ℕ) (b c all : List DeviceEvent) → FillsFile name bytes b all
    → AsksFile name bytes c (event.Create name ∷ all)
file_of_fill name bytes b c all fills = record {
  syncs = [];
  are_syncs = tt;
  pieces = fills.pieces;
  whole = fills.whole;
  asked = ap (λ (xs : List DeviceEvent). event.Create name ∷ xs) fills.asked;
}

pub file_asked : (name bytes : List ℕ) (old mid new : DiskState) (r : Answer) → mid.noted ≡ old.noted
    → (IsTrue old.noted → Notes (event.Create name) old mid)
    → (IsTrue old.noted → AsksOfDisk (FillsFile name bytes) (FillsPart name bytes) mid new r)
    → AsksOfDisk (AsksFile name bytes) (AsksFirstOf (AsksFile name bytes)) old new r
file_asked name bytes old mid new (Ok u) same one fills noted =
    let adds = fills noted (same ∙ noted) in record {
      now = event.Create name ∷ adds.now;
      trail = made_first old.trail mid.trail new.trail (event.Create name) adds.now (one noted) adds.trail;
      is = file_of_fill name bytes mid.trail old.trail adds.now adds.is;
    }
file_asked name bytes old mid new (Err f) same one fills noted =
    let adds = fills noted (same ∙ noted) in record {
      now = event.Create name ∷ adds.now;
      trail = made_first old.trail mid.trail new.trail (event.Create name) adds.now (one noted) adds.trail;
      is = record {
        first = event.Create name ∷ adds.is.first;
        rest = adds.is.rest;
        asked = file_of_fill name bytes mid.trail old.trail (adds.is.first ++ adds.is.rest) adds.is.asked;
        refused = adds.is.refused;
        are_refused = adds.is.are_refused;
        is = ap (λ (xs : List DeviceEvent). event.Create name ∷ xs) adds.is.is;
      };
    }

pub not_begun : (name bytes : List ℕ) (old at new : DiskState) → OnlyLooks old at → OnlyLooks at new → IsTrue old.noted
    → Adds (AsksFirstOf (AsksFile name bytes)) old.trail new.trail
not_begun name bytes old at new one two noted =
    nothing_added (AsksFirstOf (AsksFile name bytes)) old.trail new.trail (two.trail ∙ one.trail)
    (none_first (AsksFile name bytes) old.trail _
    (record { syncs = []; are_syncs = tt; pieces = bytes ∷ []; whole = append-nil bytes; asked = refl }))
