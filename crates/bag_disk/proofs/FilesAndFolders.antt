-- The files and folders of a disk, without what else stands there.
use Rattle.bag_disk.proofs.Common.{arith, ◌≡◌, ℕ, Bool, true, cond, List, [], ◌∷◌, filter, length, Option, Some, None}
use Rattle.bag_disk.proofs.Common.{refl, ap, sym, ◌∙◌, subst, and_parts, and_from, find, is_sorted, get-entries}
use Rattle.bag_disk.proofs.Common.{get-from_entries, entries_sorted, len-entries, nat_list_cmp_total, text_cmp}
use Rattle.bag_disk.proofs.Common.{exact_texts, one_text, none_below, t_true, Nodes, Node, node, Has, entry_count}
use Rattle.bag_disk.proofs.Common.{files_and_folders, is_plain_node, is_plain_found}
use Rattle.std.proofs.Math.Dec.{T}
use Rattle.std.specs.FinMap as fin
use Rattle.std.specs.FinMap.Entries.{below_all, same_entries}

-- a file or a folder, and nothing else
abbrev pub plain_of : Option Node → Option Node
plain_of None = None
plain_of (Some n) = cond (is_plain_node n) (Some n) None

abbrev pub plain_entry : List ℕ × Node → Bool
plain_entry e = is_plain_node e.1

-- what is found among the files and folders
plain_found : (es : List (List ℕ × Node)) (q : List ℕ) → is_sorted text_cmp es ≡ true
    → find text_cmp q (filter plain_entry es) ≡ plain_of (find text_cmp q es)
plain_found [] q h = refl
plain_found (e ∷ es) q h = grind (arith, one_text q e.0, none_below e.0 es, and_parts, plain_found es q)

-- what stands at a path among the files and folders is what stands there, where it is one
pub node_alone : (nodes : Nodes) (path : List ℕ) → node (files_and_folders nodes) path ≡ plain_of (node nodes path)
node_alone nodes path =
    get-from_entries nat_list_cmp_total (filter plain_entry (fin.entries nodes)) path
    ∙ plain_found (fin.entries nodes) path (t_true _ (entries_sorted nodes))
    ∙ ap plain_of (sym (get-entries nodes path))

-- a file or a folder stands among the files and folders
pub stands_alone : (nodes : Nodes) (path : List ℕ) → is_plain_found (node nodes path) ≡ true
    → Has (files_and_folders nodes) path
stands_alone nodes path plain = grind (arith, node_alone)

below_filtered : (k : List ℕ) (es : List (List ℕ × Node)) → below_all text_cmp k es ≡ true
    → below_all text_cmp k (filter plain_entry es) ≡ true
below_filtered k [] h = refl
below_filtered k (e ∷ es) h = grind (arith, and_parts, and_from, below_filtered k es)

sorted_filtered : (es : List (List ℕ × Node)) → is_sorted text_cmp es ≡ true
    → is_sorted text_cmp (filter plain_entry es) ≡ true
sorted_filtered [] h = refl
sorted_filtered (e ∷ es) h = grind (arith, and_parts, and_from, below_filtered, sorted_filtered es)

-- their entries are those entries of the disk
entries_alone : (nodes : Nodes) → fin.entries (files_and_folders nodes) ≡ filter plain_entry (fin.entries nodes)
entries_alone nodes =
    let kept = filter plain_entry (fin.entries nodes) in
    same_entries text_cmp nat_list_cmp_total exact_texts (fin.entries (files_and_folders nodes)) kept
    (entries_sorted (files_and_folders nodes))
    (subst T (sym (sorted_filtered (fin.entries nodes) (t_true _ (entries_sorted nodes)))) tt)
    (λ q. sym (get-entries (files_and_folders nodes) q) ∙ get-from_entries nat_list_cmp_total kept q)

-- so many files and folders are among the entries
pub count_alone : (nodes : Nodes) → length (filter plain_entry (fin.entries nodes)) ≡ entry_count nodes
count_alone nodes = sym (len-entries (files_and_folders nodes) ∙ ap length (entries_alone nodes))
