-- What a lookup finds is what stands there.
use Rattle.std.proofs.Common.{◌≡◌, ℕ, List, [], ◌∷◌, Option, None, Some, cond, MatchOption, Bor, refl, ap, sym, ◌∙◌}
use Rattle.std.proofs.Common.{Bool, true, false}
use Rattle.std.specs.FinMap.{find, get-from_entries}
use Rattle.std.specs.Cmp.Lexicographic.{nat_list_cmp_total}
use Rattle.std.specs.Map.{lookup}
use Rattle.std.specs.Option.{option_map, option_copied}
use Rattle.std.specs.BTreeMap.{is_at}
use Rattle.bag_text.specs.Text.{text_cmp}
use Rattle.bag_disk.specs.Disk as disk
use Rattle.bag_disk.specs.DiskNodes as standing
use Rattle.test_nodes.specs.Held.{Held, entries_of, nodes_of, node_of}
use Rattle.test_nodes.specs.declared.held.Node.{Node}

mapped_cond : (b : Bool) (n : Node) (o : Option Node)
    → cond b (Some (node_of n)) (option_map node_of o) ≡ option_map node_of (cond b (Some n) o)
mapped_cond true n o = refl
mapped_cond false n o = refl

find_held : (held : Held) (q : List ℕ)
    → find text_cmp q (entries_of held) ≡ option_map node_of (lookup (is_at (λ k. text_cmp q k.items)) held)
find_held [] q = refl
find_held (e ∷ held) q =
    ap (cond (is_at (text_cmp q) e.0.items) (Some (node_of e.1))) (find_held held q)
    ∙ mapped_cond (is_at (text_cmp q) e.0.items) e.1 (lookup (is_at (λ k. text_cmp q k.items)) held)

-- what stands at a path is what a lookup finds
pub found_at : (held : Held) (q : List ℕ)
    → standing.node (nodes_of held) q ≡ option_map node_of (lookup (is_at (λ k. text_cmp q k.items)) held)
found_at held q = get-from_entries nat_list_cmp_total (entries_of held) q ∙ find_held held q

pub match_copied : (r : Option (Bor Node)) (o : Option Node) (p : Option disk.Node) → option_copied r ≡ o
    → p ≡ option_map node_of o → MatchOption r (p ≡ None) (λ found. p ≡ Some (node_of found.now))
match_copied None o p e is = is ∙ ap (option_map node_of) (sym e)
match_copied (Some x) o p e is = is ∙ ap (option_map node_of) (sym e)
