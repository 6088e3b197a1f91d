-- How many files and folders there are after a change.
use Rattle.bag_store.proofs.Common.{◌≡◌, ℕ, ◌+◌, ◌≤◌, true, false, List, [], ◌∷◌, filter, length, ap, sym, ◌∙◌, arith}
use Rattle.bag_store.proofs.Common.{get-empty, get-insert, get-remove, len-empty, len-insert, len-remove, same_map}
use Rattle.bag_store.proofs.Common.{nat_list_cmp_total, text_cmp, exact_texts, moved, renamed, with_renamed, Nodes}
use Rattle.bag_store.proofs.Common.{Node, entry_count, files_and_folders, is_plain_node}
use Rattle.std.specs.FinMap as map
use Rattle.bag_disk.proofs.FilesAndFolders.{count_alone, node_alone, plain_entry, plain_of}

-- the files and folders with one more
put_alone : (nodes : Nodes) (path : List ℕ) (n : Node) → is_plain_node n ≡ true
    → files_and_folders (map.insert nodes path n) ≡ map.insert (files_and_folders nodes) path n
put_alone nodes path n plain =
    same_map nat_list_cmp_total exact_texts _ _ (λ q.
    grind (arith, node_alone, get-insert {X = Node} nat_list_cmp_total))

-- the files and folders where something else is put
other_put_alone : (nodes : Nodes) (path : List ℕ) (n : Node) → is_plain_node n ≡ false
    → files_and_folders (map.insert nodes path n) ≡ map.remove (files_and_folders nodes) path
other_put_alone nodes path n other =
    same_map nat_list_cmp_total exact_texts _ _ (λ q.
    grind (arith, node_alone, get-insert {X = Node} nat_list_cmp_total, get-remove {X = Node} nat_list_cmp_total))

-- at most one more stands there
pub more_put : (nodes : Nodes) (path : List ℕ) (n : Node) → is_plain_node n ≡ true
    → entry_count (map.insert nodes path n) ≤ entry_count nodes + 1
more_put nodes path n plain = grind (arith, put_alone, len-insert nat_list_cmp_total (files_and_folders nodes) path n)

no_more_put : (nodes : Nodes) (path : List ℕ) (n : Node) → is_plain_node n ≡ false
    → entry_count (map.insert nodes path n) ≤ entry_count nodes
no_more_put nodes path n other =
    grind (arith, other_put_alone, len-remove nat_list_cmp_total (files_and_folders nodes) path)

-- nor where something is removed
pub no_more_gone : (nodes : Nodes) (path : List ℕ) → entry_count (map.remove nodes path) ≤ entry_count nodes + 0
no_more_gone nodes path = grind (arith, gone_alone, len-remove nat_list_cmp_total (files_and_folders nodes) path)
  where
    gone_alone : files_and_folders (map.remove nodes path) ≡ map.remove (files_and_folders nodes) path
    gone_alone =
        same_map nat_list_cmp_total exact_texts _ _ (λ q.
        grind (arith, node_alone, get-remove {X = Node} nat_list_cmp_total))

with_as_many : (from to : List ℕ) (nodes : Nodes) (es : List (List ℕ × Node))
    → entry_count (with_renamed from to nodes es) ≤ entry_count nodes + length (filter plain_entry es)
with_as_many from to nodes [] = omega arith
with_as_many from to nodes (e ∷ es) =
    grind (arith, more_put, no_more_put, with_as_many from to (map.insert nodes (renamed from to e.0) e.1) es)

-- there are no more where something was moved
pub as_many_moved : (from to : List ℕ) (nodes : Nodes) → entry_count (moved from to nodes) ≤ entry_count nodes + 0
as_many_moved from to nodes =
    grind (
      arith,
      with_as_many from to map.empty (map.entries nodes),
      nothing_alone,
      len-empty text_cmp Node,
      count_alone nodes,
    )
  where
    nothing_alone : files_and_folders map.empty ≡ map.empty
    nothing_alone =
        same_map nat_list_cmp_total exact_texts _ _ (λ q.
        node_alone map.empty q ∙ ap plain_of (get-empty text_cmp q) ∙ sym (get-empty text_cmp q))
