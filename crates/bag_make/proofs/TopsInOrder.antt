-- The names that are moved are listed in order, each once.
use Rattle.bag_make.proofs.Common.{arith, ◌≡◌, ℕ, List, map, Contains, ap, sym, ◌∙◌, is_some}
use Rattle.bag_make.proofs.Common.{nat_list_cmp_total, is_sorted, entries_sorted, contains_key-keys, get-from_entries}
use Rattle.bag_make.proofs.Common.{is_some-find, list_any, eq_by_cmp}
use Rattle.bag_make.proofs.Common.{text_cmp, any_from, from_any, one_list, one_text, text_itself, in_order}
use Rattle.std.specs.FinMap as fin
use Rattle.bag_text.specs.Order.{IsListOf}
use Rattle.bag_facts.proofs.Found.{ascends}
use Rattle.bag_tree.proofs.PathEntries.{t_true}
use Rattle.std.proofs.lemmas.List.{map-id}
use Rattle.std.proofs.lemmas.Simd.{map-map}

abbrev Entry : Type 0
Entry = List ℕ × Unit {0}

abbrev marked : List (List ℕ) → List Entry
marked texts = map (λ t. (t, tt)) texts

abbrev names : List (List ℕ) → fin.FinMap text_cmp (Unit {0})
names texts = fin.from_entries (marked texts)

unmarked : (texts : List (List ℕ)) → map (λ (e : Entry). e.0) (marked texts) ≡ texts
unmarked texts = map-map (λ (e : Entry). e.0) (λ t. (t, tt)) texts ∙ map-id texts

-- the same texts are there
pub same_any : (texts : List (List ℕ)) (t : List ℕ)
    → list_any (eq_by_cmp text_cmp t) (in_order texts) ≡ list_any (eq_by_cmp text_cmp t) texts
same_any texts t =
    sym (contains_key-keys (names texts) t) ∙ ap is_some (get-from_entries nat_list_cmp_total (marked texts) t)
    ∙ is_some-find text_cmp t (marked texts)
    ∙ ap (list_any (eq_by_cmp text_cmp t)) (unmarked texts)

moves_over : (xs ys : List (List ℕ)) (t : List ℕ) → Contains xs t
    → list_any (eq_by_cmp text_cmp t) xs ≡ list_any (eq_by_cmp text_cmp t) ys → Contains ys t
moves_over xs ys t has same =
    grind (arith, any_from (eq_by_cmp text_cmp t) xs t has (text_itself t), from_any, text_itself, one_text)

pub listed_in_order : (texts : List (List ℕ)) → IsListOf text_cmp (Contains texts) (in_order texts)
listed_in_order texts = record {
  ascending =
      ascends (fin.entries (names texts))
      (t_true (is_sorted text_cmp (fin.entries (names texts))) (entries_sorted (names texts)));
  members =
      λ t. (
        λ has. moves_over (in_order texts) texts t has (same_any texts t),
        λ has.
            moves_over texts (in_order texts) t has (sym (same_any texts t)),
      );
}

pub only_in_order : (texts sorted : List (List ℕ)) → IsListOf text_cmp (Contains texts) sorted
    → in_order texts ≡ sorted
only_in_order texts sorted is =
    one_list text_cmp nat_list_cmp_total (Contains texts) (in_order texts) sorted (listed_in_order texts) is
