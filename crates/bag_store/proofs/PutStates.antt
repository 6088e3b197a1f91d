-- What putting a file in place of another, and removing one, makes of what stands on a disk.
use Rattle.bag_store.proofs.Common.{◌≡◌, ℕ, true, false, IsTrue, List, None, length, take, take-length}
use Rattle.bag_store.proofs.Common.{inl, inr, ◌⊎◌, ap, sym, ◌∙◌, arith, get-insert, get-remove, same_map}
use Rattle.bag_store.proofs.Common.{nat_list_cmp_total, exact_texts, one_text, text_itself, is_base_name, DiskState}
use Rattle.bag_store.proofs.Common.{Nodes, Node, node, is_folder_node, File, OnlyLooks, ClosesOpenFile}
use Rattle.bag_store.proofs.Common.{with_file_node, Begins, Makes}
use Rattle.std.specs.FinMap as map
use Rattle.std.proofs.Common.{◌≢◌, Ok, Err, OnErr, OnOk, subst}
use Rattle.bag_disk.specs.DiskNodes.{IsFileWith, OnlySyncs}
use Rattle.bag_disk.specs.ReplaceDisk.{PutsInPlace, without_node}
use Rattle.bag_store.specs.Writing.{LeavesPut, MakesFileOf, Puts}
use Rattle.bag_store.proofs.AskedOf.{Answer, looked, syncs_on}
use Rattle.bag_store.proofs.BagSteps.{node_put}
use Rattle.bag_store.proofs.BaseNames.{base_reached}

-- a file that was made beside, where nothing stood, and given its own name
put_over : (nodes : Nodes) (beside name : List ℕ) (n m : Node) → node nodes beside ≡ None
    → map.insert (map.remove (map.insert nodes beside n) beside) name m ≡ map.insert nodes name m
put_over nodes beside name n m free =
    same_map nat_list_cmp_total exact_texts _ _ (λ q.
    grind (
      arith,
      get-insert {X = Node} nat_list_cmp_total,
      get-remove {X = Node} nat_list_cmp_total,
      one_text q beside,
    ))

-- no folder has the name, before that file was made
no_folder_before : (nodes : Nodes) (beside name bytes : List ℕ) → beside ≢ name
    → is_folder_node (node (with_file_node nodes beside bytes) name) ≡ false → is_folder_node (node nodes name) ≡ false
no_folder_before nodes beside name bytes two none = grind (arith, node_put, one_text name beside)

file_beside : (nodes : Nodes) (beside bytes : List ℕ) → IsFileWith (with_file_node nodes beside bytes) beside bytes
file_beside nodes beside bytes = grind (arith, node_put, text_itself)

module _ (old seen made put : DiskState) (beside name bytes : List ℕ) (ready : OnlySyncs old seen)
    (makes : Makes seen made beside bytes) where
  made_before : IsTrue old.honest → MakesFileOf old.nodes made.nodes beside bytes
  made_before honest =
      subst (λ (ns : Nodes). MakesFileOf ns made.nodes beside bytes) ready.nodes (makes.file (ready.honest ∙ honest))

  -- the file was made, and nothing more
  pub only_made : (new : DiskState) → OnlyLooks made new → Begins old new beside bytes
  only_made new two = record {
    count = length bytes;
    first = record {
      closed = record {
        honest = two.honest ∙ makes.closed.honest ∙ ready.honest;
        openings = two.openings ∙ makes.closed.openings ∙ ready.openings;
        rest = two.rest ∙ makes.closed.rest;
        noted = two.noted ∙ makes.closed.noted ∙ ready.noted;
      };
      file = λ honest.
          let file = made_before honest in
          record {
            free = file.free;
            made =
                two.nodes ∙ file.made
                ∙ ap (with_file_node old.nodes beside) (sym (take-length bytes));
          };
    };
  }

  -- it was given its name, and then there were syncs
  pub puts : (new : DiskState) → beside ≢ name → is_base_name beside ≡ true → is_base_name name ≡ true
      → ClosesOpenFile made put → PutsInPlace made put beside name → OnlySyncs put new
      → Puts old new beside name bytes
  puts new two beside_is name_is closes replaces syncs = record {
    closed = record {
      honest = syncs.honest ∙ closes.honest ∙ makes.closed.honest ∙ ready.honest;
      openings = syncs.openings ∙ closes.openings ∙ makes.closed.openings ∙ ready.openings;
      rest = syncs.rest ∙ closes.rest;
      noted = syncs.noted ∙ closes.noted ∙ makes.closed.noted ∙ ready.noted;
    };
    file = λ honest.
        let file = made_before honest in
        let there : IsFileWith made.nodes beside bytes =
        subst (λ (ns : Nodes). IsFileWith ns beside bytes) (sym file.made) (file_beside old.nodes beside bytes) in
        let given =
        replaces (makes.closed.honest ∙ ready.honest ∙ honest) (base_reached made.nodes beside beside_is)
        (base_reached made.nodes name name_is) bytes there in
        record {
          free = file.free;
          no_folder =
              no_folder_before old.nodes beside name bytes two
              (subst (λ (ns : Nodes). is_folder_node (node ns name) ≡ false) file.made given.no_folder);
          put =
              syncs.nodes ∙ given.put
              ∙ ap (λ (ns : Nodes). with_file_node (without_node ns beside) name bytes) file.made
              ∙ put_over old.nodes beside name (File bytes) (File bytes) file.free;
        };
  }

-- and by what the last sync answered
pub puts_made : (r : Answer) (old seen made put new : DiskState) (beside name bytes : List ℕ) → OnlySyncs old seen
    → Makes seen made beside bytes → beside ≢ name → is_base_name beside ≡ true → is_base_name name ≡ true
    → ClosesOpenFile made put → PutsInPlace made put beside name → OnlySyncs put new
    → OnOk r (Puts old new beside name bytes)
puts_made (Ok u) old seen made put new beside name bytes ready makes two beside_is name_is closes replaces syncs =
    puts old seen made put beside name bytes ready makes new two beside_is name_is closes replaces syncs
puts_made (Err f) old seen made put new beside name bytes ready makes two beside_is name_is closes replaces syncs = tt

pub puts_left : (r : Answer) (old seen made put new : DiskState) (beside name bytes : List ℕ) → OnlySyncs old seen
    → Makes seen made beside bytes → beside ≢ name → is_base_name beside ≡ true → is_base_name name ≡ true
    → ClosesOpenFile made put → PutsInPlace made put beside name → OnlySyncs put new
    → OnErr r (LeavesPut old new beside name bytes)
puts_left (Ok u) old seen made put new beside name bytes ready makes two beside_is name_is closes replaces syncs = tt
puts_left (Err f) old seen made put new beside name bytes ready makes two beside_is name_is closes replaces syncs =
    inr (inr (puts old seen made put beside name bytes ready makes new two beside_is name_is closes replaces syncs))

-- a file was begun after a sync, or nothing was made
pub begun_left : (old seen new : DiskState) (beside name bytes : List ℕ) → OnlySyncs old seen
    → OnlyLooks seen new ⊎ Begins seen new beside bytes → LeavesPut old new beside name bytes
begun_left old seen new beside name bytes ready (inl looks) = inl (syncs_on old seen new ready (looked seen new looks))
begun_left old seen new beside name bytes ready (inr begins) = inr (inl (record {
  count = begins.count;
  first = record {
    closed = record {
      honest = begins.first.closed.honest ∙ ready.honest;
      openings = begins.first.closed.openings ∙ ready.openings;
      rest = begins.first.closed.rest;
      noted = begins.first.closed.noted ∙ ready.noted;
    };
    file = λ honest.
        subst (λ (ns : Nodes). MakesFileOf ns new.nodes beside (take begins.count bytes)) ready.nodes
        (begins.first.file (ready.honest ∙ honest));
  };
}))
