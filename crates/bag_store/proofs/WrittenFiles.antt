-- Files are written piece by piece.
use Rattle.bag_store.proofs.Common.{◌≡◌, ℕ, ◌+◌, ◌-◌, ◌≤◌, true, IsTrue, List, [], ◌++◌, length, length-drop, take}
use Rattle.bag_store.proofs.Common.{take-add, take_all, drop, arith, Option, Some, is_some, append_assoc, append-nil}
use Rattle.bag_store.proofs.Common.{refl, ap, sym, ◌∙◌, false≢true, take-length, slice_range, get-insert, same_map}
use Rattle.bag_store.proofs.Common.{nat_list_cmp_total, exact_texts, one_text, text_itself, DiskState, Nodes, Node}
use Rattle.bag_store.proofs.Common.{node, OnlyLooks, bytes_of, File, Appends, ClosesOpenFile, HasFileNode, MakesFile}
use Rattle.bag_store.proofs.Common.{HasWritten, HasWrittenSome, Makes, Begins}
use Rattle.std.specs.FinMap as map

put_again : (nodes : Nodes) (path : List ℕ) (n m : Node)
    → map.insert (map.insert nodes path n) path m ≡ map.insert nodes path m
put_again nodes path n m =
    same_map nat_list_cmp_total exact_texts _ _ (λ q. grind (arith, get-insert {X = Node} nat_list_cmp_total))

put_same : (nodes : Nodes) (path : List ℕ) (n : Node) → node nodes path ≡ Some n → map.insert nodes path n ≡ nodes
put_same nodes path n is =
    same_map nat_list_cmp_total exact_texts _ _ (λ q. grind (arith, get-insert {X = Node} nat_list_cmp_total, one_text))

put_there : (nodes : Nodes) (path : List ℕ) (n : Node) → node (map.insert nodes path n) path ≡ Some n
put_there nodes path n = grind (arith, get-insert nat_list_cmp_total nodes path n path, text_itself)

file_there : (o : Option Node) → is_some (bytes_of o) ≡ true → (content : List ℕ) × (o ≡ Some (File content))
file_there (Some (File content)) has = (content, refl)
file_there _ has = absurd (false≢true has)

-- what is left of the bytes
pub rest_is : (bytes : List ℕ) (done : ℕ) → slice_range bytes done (length bytes) ≡ drop done bytes
rest_is bytes done = take_all (length bytes - done) (drop done bytes) (omega (arith, length-drop done bytes))

pub next_written : (bytes : List ℕ) (done count : ℕ)
    → take done bytes ++ take count (slice_range bytes done (length bytes)) ≡ take (done + count) bytes
next_written bytes done count =
    ap (λ rest. take done bytes ++ take count rest) (rest_is bytes done) ∙ sym (take-add done count bytes)

pub within_all : (bytes : List ℕ) (done count : ℕ) → done ≤ length bytes
    → count ≤ length (slice_range bytes done (length bytes)) → done + count ≤ length bytes
within_all bytes done count before within =
    omega (arith, before, within, ap length (rest_is bytes done), length-drop done bytes)

-- nothing was written yet
pub nothing_written : (old : DiskState) (written : Option (List ℕ)) → HasWritten old old written []
nothing_written old written = record {
  honest = refl;
  openings = refl;
  rest = λ closed. closed;
  noted = refl;
  nodes = λ _ path _ has.
      let there =
      file_there (node old.nodes path) has
      in record {
        content = there.0;
        was = there.1;
        appended = grind (arith, append-nil there.0, put_same old.nodes path (File there.0) there.1);
      };
}

appended_again : (old mid new : Nodes) (path first next all : List ℕ) → first ++ next ≡ all → Appends old mid path first
    → Appends mid new path next → Appends old new path all
appended_again old mid new path first next all joined one other = grind (arith, put_there, put_again, append_assoc)

file_after : (old new : Nodes) (path bytes : List ℕ) → Appends old new path bytes → HasFileNode new path
file_after old new path bytes appends = grind (arith, put_there)

-- some more bytes were written
pub written_more : (old mid new : DiskState) (written now : Option (List ℕ)) (first next all : List ℕ)
    → first ++ next ≡ all → now ≡ written → HasWritten old mid written first
    → (IsTrue mid.honest → (path : List ℕ) → now ≡ Some path → HasFileNode mid.nodes path
    → Appends mid.nodes new.nodes path next) → ClosesOpenFile mid new
    → HasWritten old new written all
written_more old mid new written now first next all joined same before more closes = record {
  honest = closes.honest ∙ before.honest;
  openings = closes.openings ∙ before.openings;
  rest = λ _. closes.rest;
  noted = closes.noted ∙ before.noted;
  nodes = λ honest path is has.
      grind (
        arith,
        before.nodes honest path is has,
        appended_again old.nodes mid.nodes new.nodes path first next all joined,
        file_after old.nodes mid.nodes path first,
      );
}

pub written_same : (old mid new : DiskState) (written : Option (List ℕ)) (bytes : List ℕ)
    → HasWritten old mid written bytes → OnlyLooks mid new → HasWritten old new written bytes
written_same old mid new written bytes before looks = grind arith

-- a file was written, then synced, and then a folder
pub written_synced : (old mid synced new : DiskState) (written : Option (List ℕ)) (bytes : List ℕ)
    → HasWritten old mid written bytes → synced.nodes ≡ mid.nodes → ClosesOpenFile mid synced → OnlyLooks synced new
    → HasWritten old new written bytes
written_synced old mid synced new written bytes before same closes looks = grind (arith, written_same)

-- all bytes are some first ones
pub all_written : (old new : DiskState) (written : Option (List ℕ)) (bytes : List ℕ) → HasWritten old new written bytes
    → HasWrittenSome old new written bytes
all_written old new written bytes before = grind (arith, take-length bytes)

-- a file was made, and these bytes were written to it
pub made_of : (old mid new : DiskState) (written : Option (List ℕ)) (name bytes : List ℕ)
    → (IsTrue old.honest → MakesFile old.nodes mid.nodes name) → ClosesOpenFile old mid
    → (IsTrue old.honest → written ≡ Some name)
    → HasWritten mid new written bytes → Makes old new name bytes
made_of old mid new written name bytes makes closes named filled =
    record {
      closed = grind arith;
      file = λ honest.
          grind (arith, filled.nodes (closes.honest ∙ honest) name (named honest), makes honest, put_there, put_again);
    }

pub begun_of : (old mid new : DiskState) (written : Option (List ℕ)) (name bytes : List ℕ)
    → (IsTrue old.honest → MakesFile old.nodes mid.nodes name) → ClosesOpenFile old mid
    → (IsTrue old.honest → written ≡ Some name)
    → HasWrittenSome mid new written bytes → Begins old new name bytes
begun_of old mid new written name bytes makes closes named some =
    grind (arith, made_of old mid new written name (take some.count bytes) makes closes named some.first)
