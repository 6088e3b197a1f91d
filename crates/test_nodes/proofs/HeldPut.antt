-- What is held after something was put at a path.
use Rattle.std.proofs.Common.{◌≡◌, ℕ, List, [], ◌∷◌, Option, Some, cond, Bool, true, false, refl, ap, sym, ◌∙◌}
use Rattle.std.specs.Prelude.{Vec}
use Rattle.std.proofs.lemmas.Bool.{false≢true}
use Rattle.std.specs.declared.alloc.Global.{Global}
use Rattle.std.specs.declared.cmp.Ordering.{Ordering}
use Rattle.std.specs.declared.cmp.Ordering.TheVariants.{Less, Equal, Greater}
use Rattle.std.specs.FinMap as map
use Rattle.std.specs.FinMap.{find, get-from_entries, get-insert, same_map}
use Rattle.std.specs.Cmp.Lexicographic.{nat_list_cmp_total}
use Rattle.std.specs.Ordering.{eq_by_cmp, is_eq, match_ordering}
use Rattle.std.specs.BTreeMap.{insert_entry}
use Rattle.bag_text.specs.Text.{text_cmp}
use Rattle.bag_tree.proofs.SameText.{one_text, text_itself, exact_texts}
use Rattle.bag_disk.specs.Disk as disk
use Rattle.test_nodes.specs.Held.{Held, entries_of, nodes_of, node_of}
use Rattle.test_nodes.specs.declared.held.Node.{Node}

-- the order of paths that are held
abbrev pub held_cmp : Vec ℕ Global → Vec ℕ Global → Ordering
held_cmp x y = text_cmp x.items y.items

replaced : (b c : Bool) (new : disk.Node) (old : disk.Node) (rest : Option disk.Node) → b ≡ c
    → cond b (Some new) rest ≡ cond c (Some new) (cond b (Some old) rest)
replaced true true new old rest e = refl
replaced false false new old rest e = refl
replaced true false new old rest e = absurd (false≢true (sym e))
replaced false true new old rest e = absurd (false≢true e)

passed_over : (b c : Bool) (new : disk.Node) (passed : disk.Node) (rest : Option disk.Node) → (b ≡ true → c ≡ false)
    → cond b (Some passed) (cond c (Some new) rest) ≡ cond c (Some new) (cond b (Some passed) rest)
passed_over true true new passed rest apart = absurd (false≢true (sym (apart refl)))
passed_over true false new passed rest apart = refl
passed_over false c new passed rest apart = refl

greater_apart : (k e q : List ℕ) → text_cmp k e ≡ Greater → eq_by_cmp text_cmp q e ≡ true
    → eq_by_cmp text_cmp q k ≡ false
greater_apart k e q greater same = elim (eq_by_cmp text_cmp q k) as (λ b. eq_by_cmp text_cmp q k ≡ b → b ≡ false) [
  | false ↦ λ _. refl
  | true ↦ λ too.
      let one : k ≡ e = sym (one_text q k too) ∙ one_text q e same in
      absurd (false≢true (ap is_eq (sym greater ∙ ap (λ t. text_cmp k t) (sym one)) ∙ text_itself k))
] refl

found_put : (held : Held) (k : Vec ℕ Global) (v : Node) (q : List ℕ)
    → find text_cmp q (entries_of (insert_entry held_cmp held k v))
    ≡ cond (eq_by_cmp text_cmp q k.items) (Some (node_of v)) (find text_cmp q (entries_of held))
found_put [] k v q = refl
found_put (e ∷ held) k v q =
    let rest = find text_cmp q (entries_of held) in
    elim (text_cmp k.items e.0.items) as (λ o. text_cmp k.items e.0.items ≡ o
    → find text_cmp q
    (entries_of (match_ordering o ((k, v) ∷ e ∷ held) ((e.0, v) ∷ held) (e ∷ insert_entry held_cmp held k v)))
    ≡ cond (eq_by_cmp text_cmp q k.items) (Some (node_of v))
    (cond (eq_by_cmp text_cmp q e.0.items) (Some (node_of e.1)) rest)) [
      | Less ↦ λ _. refl
      | Equal ↦ λ is.
          let one : k.items ≡ e.0.items = one_text k.items e.0.items (ap is_eq is) in
          replaced (eq_by_cmp text_cmp q e.0.items) (eq_by_cmp text_cmp q k.items) (node_of v) (node_of e.1) rest
          (ap (eq_by_cmp text_cmp q) (sym one))
      | Greater ↦ λ is.
          ap (cond (eq_by_cmp text_cmp q e.0.items) (Some (node_of e.1))) (found_put held k v q)
          ∙ passed_over (eq_by_cmp text_cmp q e.0.items) (eq_by_cmp text_cmp q k.items) (node_of v) (node_of e.1) rest
          (greater_apart k.items e.0.items q is)
    ] refl

-- what stands there then
pub nodes_put : (held : Held) (k : Vec ℕ Global) (v : Node)
    → nodes_of (insert_entry held_cmp held k v) ≡ map.insert (nodes_of held) k.items (node_of v)
nodes_put held k v = same_map nat_list_cmp_total exact_texts _ _ (λ q.
    get-from_entries nat_list_cmp_total (entries_of (insert_entry held_cmp held k v)) q ∙ found_put held k v q
    ∙ ap (cond (eq_by_cmp text_cmp q k.items) (Some (node_of v)))
    (sym (get-from_entries nat_list_cmp_total (entries_of held) q))
    ∙ sym (get-insert nat_list_cmp_total (nodes_of held) k.items (node_of v) q))
