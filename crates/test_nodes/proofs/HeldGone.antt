-- What is held without what stands at a path.
use Rattle.std.proofs.Common.{◌≡◌, ℕ, Bool, true, false, List, [], ◌∷◌, Option, None, Some, cond, bytes_eq, refl, ap}
use Rattle.std.proofs.Common.{sym, ◌∙◌, arith}
use Rattle.std.proofs.lemmas.Bool.{and_parts}
use Rattle.std.proofs.lemmas.Slice.Eq.{bytes_eq-Decides}
use Rattle.std.specs.FinMap as fin
use Rattle.std.specs.FinMap.Entries.{below_all}
use Rattle.std.specs.FinMap.{entries_sorted, find, get-empty, get-entries, get-insert, get-remove, is_sorted, same_map}
use Rattle.std.specs.List.Sorted.{IsStrictlySortedBy}
use Rattle.std.specs.Map.{keys_of}
use Rattle.std.specs.Cmp.Lexicographic.{nat_list_cmp_total}
use Rattle.std.specs.Ordering.{eq_by_cmp}
use Rattle.bag_text.specs.Text.{text_cmp}
use Rattle.bag_tree.proofs.PathEntries.{none_below, t_true}
use Rattle.bag_tree.proofs.SameText.{exact_texts, one_text, text_itself}
use Rattle.bag_disk.specs.Disk.{Nodes, Node}
use Rattle.bag_disk.specs.ReplaceDisk.{without_node}
use Rattle.test_nodes.specs.Held.{Held, entries_of, nodes_of}
use Rattle.test_nodes.proofs.HeldMoved.{entries_are}
use Rattle.test_nodes.proofs.HeldPut.{held_cmp}

-- these entries, one after another, but for those at the path
abbrev pub with_others : List ℕ → Nodes → List (List ℕ × Node) → Nodes
with_others path all [] = all
with_others path all (e ∷ es) =
    with_others path (cond (bytes_eq e.0 path) all (fin.insert all e.0 e.1)) es

abbrev or_else : Option Node → Option Node → Option Node
or_else None other = other
or_else (Some n) other = Some n

-- at the path nothing more stands
at_path : (path : List ℕ) (all : Nodes) (es : List (List ℕ × Node))
    → fin.get (with_others path all es) path ≡ fin.get all path
at_path path all [] = refl
at_path path all (e ∷ es) =
    at_path path (cond (bytes_eq e.0 path) all (fin.insert all e.0 e.1)) es ∙ not_put (bytes_eq e.0 path) refl
  where
    not_put : (b : Bool) → bytes_eq e.0 path ≡ b → fin.get (cond b all (fin.insert all e.0 e.1)) path ≡ fin.get all path
    not_put true same = refl
    not_put false differ =
        grind (arith, get-insert nat_list_cmp_total all e.0 e.1 path, one_text path e.0, bytes_eq-Decides e.0 path)

-- and at another what stood there
elsewhere : (path q : List ℕ) (all : Nodes) (es : List (List ℕ × Node)) → is_sorted text_cmp es ≡ true
    → eq_by_cmp text_cmp q path ≡ false
    → fin.get (with_others path all es) q ≡ or_else (find text_cmp q es) (fin.get all q)
elsewhere path q all [] sorted differ = refl
elsewhere path q all (e ∷ es) sorted differ =
    let parts = and_parts _ _ sorted in
    elsewhere path q (cond (bytes_eq e.0 path) all (fin.insert all e.0 e.1)) es parts.1 differ
    ∙ by_first (bytes_eq e.0 path) refl parts.0
  where
    by_first : (b : Bool) → bytes_eq e.0 path ≡ b → below_all text_cmp e.0 es ≡ true
        → or_else (find text_cmp q es) (fin.get (cond b all (fin.insert all e.0 e.1)) q)
        ≡ or_else (cond (eq_by_cmp text_cmp q e.0) (Some e.1) (find text_cmp q es)) (fin.get all q)
    by_first true same below =
        grind (arith, one_text q e.0, bytes_eq-Decides e.0 path, text_itself path)
    by_first false other below =
        grind (
          arith,
          get-insert nat_list_cmp_total all e.0 e.1 q,
          one_text q e.0,
          none_below e.0 es below,
        )

none_else : (o : Option Node) → or_else o None ≡ o
none_else None = refl
none_else (Some n) = refl

others_are : (nodes : Nodes) (path : List ℕ) → with_others path fin.empty (fin.entries nodes) ≡ without_node nodes path
others_are nodes path =
    same_map nat_list_cmp_total exact_texts (with_others path fin.empty (fin.entries nodes)) (without_node nodes path)
    (λ q.
    by_place q (eq_by_cmp text_cmp q path) refl ∙ sym (get-remove nat_list_cmp_total nodes path q))
  where
    by_place : (q : List ℕ) (b : Bool) → eq_by_cmp text_cmp q path ≡ b
        → fin.get (with_others path fin.empty (fin.entries nodes)) q ≡ cond b None (fin.get nodes q)
    by_place q true same =
        ap (fin.get (with_others path fin.empty (fin.entries nodes))) (one_text q path same)
        ∙ at_path path fin.empty (fin.entries nodes) ∙ get-empty text_cmp path
    by_place q false differ =
        elsewhere path q fin.empty (fin.entries nodes) (t_true _ (entries_sorted nodes)) differ
        ∙ ap (or_else (find text_cmp q (fin.entries nodes))) (get-empty text_cmp q)
        ∙ none_else (find text_cmp q (fin.entries nodes)) ∙ sym (get-entries nodes q)

pub held_without : (held : Held) (path : List ℕ) (new : Nodes) → IsStrictlySortedBy held_cmp (keys_of held)
    → new ≡ with_others path fin.empty (entries_of held) → new ≡ without_node (nodes_of held) path
held_without held path new up is =
    is ∙ ap (with_others path fin.empty) (sym (entries_are held up)) ∙ others_are (nodes_of held) path
