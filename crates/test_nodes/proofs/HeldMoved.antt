-- What is held, in the order of its paths.
use Rattle.std.proofs.Common.{◌≡◌, ℕ, List, [], ◌∷◌, None, refl, ap, sym, ◌∙◌, subst, is_lt, true}
use Rattle.std.specs.Prelude.{Vec}
use Rattle.std.specs.declared.alloc.Global.{Global}
use Rattle.std.specs.declared.cmp.Ordering.TheVariants.{Less}
use Rattle.std.specs.FinMap as fin
use Rattle.std.specs.FinMap.{is_sorted, entries_sorted, get-entries, get-from_entries}
use Rattle.std.specs.FinMap.Entries.{below_all, same_entries}
use Rattle.std.specs.List.{AllByRecursion}
use Rattle.std.specs.List.Sorted.{IsStrictlySortedBy}
use Rattle.std.specs.Map.{keys_of}
use Rattle.std.specs.Cmp.Lexicographic.{nat_list_cmp_total}
use Rattle.std.proofs.Math.Dec.{T}
use Rattle.std.proofs.lemmas.Bool.{and_from}
use Rattle.bag_text.specs.Text.{text_cmp}
use Rattle.bag_tree.proofs.SameText.{exact_texts}
use Rattle.bag_tree.specs.Moved.{moved, with_renamed}
use Rattle.bag_tree.specs.MovesAll.{KeepsOthers}
use Rattle.bag_disk.specs.Disk.{Nodes}
use Rattle.bag_disk.specs.DiskNodes.{node}
use Rattle.bag_disk.proofs.Moving.{nodes_move}
use Rattle.test_nodes.specs.Held.{Held, entries_of, nodes_of}
use Rattle.test_nodes.specs.Placing.{PassesAsDisk}
use Rattle.test_nodes.specs.PlacingLaw.{passing_is_disk}
use Rattle.test_nodes.proofs.HeldPut.{held_cmp}

below : (path : Vec ℕ Global) (held : Held) → AllByRecursion (λ y. held_cmp path y ≡ Less) (keys_of held)
    → below_all text_cmp path.items (entries_of held) ≡ true
below path [] h = refl
below path (e ∷ held) h = and_from _ _ (ap is_lt h.0) (below path held h.1)

pub ascending : (held : Held) → IsStrictlySortedBy held_cmp (keys_of held) → is_sorted text_cmp (entries_of held) ≡ true
unfolding IsStrictlySortedBy
ascending [] s = refl
ascending (e ∷ held) s = and_from _ _ (below e.0 held s.0) (ascending held s.1)

-- the entries of what is held are what is held, in order
pub entries_are : (held : Held) → IsStrictlySortedBy held_cmp (keys_of held)
    → fin.entries (nodes_of held) ≡ entries_of held
entries_are held up =
    same_entries text_cmp nat_list_cmp_total exact_texts (fin.entries (nodes_of held)) (entries_of held)
    (entries_sorted (nodes_of held)) (subst T (sym (ascending held up)) tt)
    (λ q. sym (get-entries (nodes_of held) q) ∙ get-from_entries nat_list_cmp_total (entries_of held) q)

pub held_moved : (held : Held) (from to : List ℕ) (new : Nodes) → IsStrictlySortedBy held_cmp (keys_of held)
    → new ≡ with_renamed from to fin.empty (entries_of held) → new ≡ moved from to (nodes_of held)
held_moved held from to new up is = is ∙ ap (with_renamed from to fin.empty) (sym (entries_are held up))

-- what stands neither at nor below the two paths of a move to a free place is as before
pub others_stay : (nodes new : Nodes) (from to : List ℕ) → PassesAsDisk nodes → node nodes to ≡ None
    → new ≡ moved from to nodes → KeepsOthers nodes new from to
others_stay nodes new from to passes free is path off outside =
    ap (λ n. node n path) is ∙ (nodes_move nodes from to (passing_is_disk nodes passes) free).others path off outside
