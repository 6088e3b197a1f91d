-- The names of what is held in a folder.
use Rattle.std.proofs.Common.{◌≡◌, ◌≢◌, ℕ, ◌<◌, ◌==◌, ◌⊎◌, ⊎_elim, inl, inr, List, [], ◌∷◌, ◌++◌, Option, None, Some}
use Rattle.std.proofs.Common.{is_some, cond, length, drop, get_or, Bool, true, false, refl, ap, sym, ◌∙◌, subst, arith}
use Rattle.std.proofs.Common.{nat_eq, IsUtf8}
use Rattle.std.proofs.lemmas.Bool.{false≢true}
use Rattle.std.proofs.lemmas.Bool.Decides.{nat_tests, Decides-eqb}
use Rattle.std.proofs.lemmas.Grind.{common_steps}
use Rattle.std.proofs.lemmas.List.Elements.{All-cons, All-nil, All-contains, Contains-append_right}
use Rattle.std.proofs.lemmas.List.Elements.{Contains-append_cases}
use Rattle.std.proofs.lemmas.List.Folds.{list_any_none}
use Rattle.std.proofs.lemmas.List.Prefix.{front_rest}
use Rattle.std.proofs.lemmas.Slice.Eq.{starts_is}
use Rattle.std.specs.FinMap.{find, get-from_entries}
use Rattle.std.specs.Cmp.Lexicographic.{nat_list_cmp_total}
use Rattle.std.specs.List.{list_any, starts_with, Contains, cons_option}
use Rattle.std.specs.Ordering.{eq_by_cmp}
use Rattle.bag_text.specs.Text.{text_cmp, after_prefix}
use Rattle.bag_text.specs.Path.{slash, under}
use Rattle.bag_tree.proofs.SameText.{one_text, text_itself}
use Rattle.bag_tree.proofs.Within.{prefix_test}
use Rattle.bag_disk.specs.Disk.{Node}
use Rattle.bag_disk.specs.DiskNodes.{AreNamesIn, HasUnnamed, IsName}
use Rattle.bag_disk.specs.Location.{path_in}
use Rattle.test_nodes.specs.Held.{Held, entries_of, nodes_of, node_of, name_in, names_in, as_name, after_folder}

after_test : (p t rest : List ℕ) (b : Bool) → starts_with nat_eq t p ≡ b
    → cond b (Some (drop (length p) t)) None ≡ Some rest → t ≡ p ++ rest
after_test p t rest true e h = let same : drop (length p) t ≡ rest = cc in (prefix_test p t).0 e ∙ ap (λ r. p ++ r) same
after_test p t rest false e h = absurd (false≢true (ap is_some h))

after_put : (p rest : List ℕ) → after_prefix p (p ++ rest) ≡ Some rest
after_put p rest = rw ((prefix_test p (p ++ rest)).1 rest refl) (ap (λ r. Some r) (front_rest (p ++ rest) p rest refl))

as_name_same : (rest name : List ℕ) → as_name (Some rest) ≡ Some name → rest ≡ name
as_name_same rest name h =
    elim (list_any (λ c. c == slash) rest) as (λ b. cond b None (Some rest) ≡ Some name → rest ≡ name) [
      | true ↦ λ none. absurd (false≢true (ap is_some none))
      | false ↦ λ some. cc
    ] h

below_slash : (rest name : List ℕ) (o : Option (List ℕ)) → after_prefix (slash ∷ []) rest ≡ o → as_name o ≡ Some name
    → rest ≡ slash ∷ name
below_slash rest name None is h = absurd (false≢true (ap is_some h))
below_slash rest name (Some more) is h =
    after_test (slash ∷ []) rest more _ refl is ∙ ap (λ t. slash ∷ t) (as_name_same more name h)

below_folder : (folder path name : List ℕ) (o : Option (List ℕ)) → after_prefix folder path ≡ o
    → as_name (after_folder o) ≡ Some name → path ≡ under folder name
below_folder folder path name None is h = absurd (false≢true (ap is_some h))
below_folder folder path name (Some rest) is h =
    after_test folder path rest _ refl is ∙ ap (λ t. folder ++ t) (below_slash rest name _ refl h)

-- a path with a name in a folder is the path of that name
name_of_path : (folder path name : List ℕ) → name_in folder path ≡ Some name → path ≡ path_in folder name
name_of_path [] path name h = as_name_same path name h
name_of_path (c ∷ folder) path name h = below_folder (c ∷ folder) path name _ refl h

not_slash : (c : ℕ) → c ≢ slash → (c == slash) ≡ false
not_slash c h = grind (arith, nat_tests)

name_put : (name : List ℕ) → IsName name → as_name (Some name) ≡ Some name
name_put name is = rw (list_any_none (λ c. c == slash) name (λ k d within. not_slash _ (is k d within))) refl

path_has_name : (folder name : List ℕ) → IsName name → name_in folder (path_in folder name) ≡ Some name
path_has_name [] name is = name_put name is
path_has_name (c ∷ folder) name is =
    ap as_name (ap after_folder (after_put (c ∷ folder) (slash ∷ name)) ∙ after_put (slash ∷ []) name)
    ∙ name_put name is

contains_head : (x : List ℕ) (xs : List (List ℕ)) → Contains (x ∷ xs) x
contains_head x xs = (0, omega arith, refl)

contains_in : (o : Option (List ℕ)) (xs : List (List ℕ)) (y : List ℕ) → Contains xs y → Contains (cons_option o xs) y
contains_in None xs y has = has
contains_in (Some x) xs y has = Contains-append_right (x ∷ []) xs y has

contains_cases : (x : List ℕ) (xs : List (List ℕ)) (y : List ℕ) → Contains (x ∷ xs) y → (x ≡ y) ⊎ Contains xs y
contains_cases x xs y has =
    ⊎_elim (λ one. inl
    (All-contains (λ z. x ≡ z) (x ∷ []) y (All-cons (λ z. x ≡ z) x [] refl (All-nil (λ z. x ≡ z))) one))
    (λ later. inr later) (Contains-append_cases (x ∷ []) xs y has)

kept : (b : Bool) (x : Node) (o : Option Node) → is_some o ≡ true → is_some (cond b (Some x) o) ≡ true
kept true x o has = refl
kept false x o has = has

named_there : (folder name : List ℕ) (held : Held) → Contains (names_in folder held) name
    → is_some (find text_cmp (path_in folder name) (entries_of held)) ≡ true
named_there folder name [] has = absurd (omega (arith, has.1))
named_there folder name (e ∷ held) has =
    let path = path_in folder name in
    let others = find text_cmp path (entries_of held) in
    elim (name_in folder e.0.items) as
    (λ o. name_in folder e.0.items ≡ o → Contains (cons_option o (names_in folder held)) name
    → is_some (cond (eq_by_cmp text_cmp path e.0.items) (Some (node_of e.1)) others) ≡ true) [
      | None ↦ λ _ later. kept _ _ others (named_there folder name held later)
      | Some x ↦ λ is either. ⊎_elim
          (λ same.
          let here = name_of_path folder e.0.items name (is ∙ ap (λ n. Some n) same) in
          ap (λ b. is_some (cond b (Some (node_of e.1)) others))
          (subst (λ p. eq_by_cmp text_cmp p e.0.items ≡ true) here (text_itself e.0.items)))
          (λ later. kept _ _ others (named_there folder name held later))
          (contains_cases x (names_in folder held) name either)
    ] refl has

there_named : (folder name : List ℕ) → IsName name → (held : Held)
    → is_some (find text_cmp (path_in folder name) (entries_of held)) ≡ true → Contains (names_in folder held) name
there_named folder name is [] has = absurd (false≢true has)
there_named folder name is (e ∷ held) has =
    let path = path_in folder name in
    elim (eq_by_cmp text_cmp path e.0.items) as
    (λ b. eq_by_cmp text_cmp path e.0.items ≡ b
    → is_some (cond b (Some (node_of e.1)) (find text_cmp path (entries_of held))) ≡ true
    → Contains (cons_option (name_in folder e.0.items) (names_in folder held)) name) [
      | true ↦ λ same _.
          let here = ap (name_in folder) (sym (one_text path e.0.items same)) ∙ path_has_name folder name is in
          subst (λ o. Contains (cons_option o (names_in folder held)) name) (sym here)
          (contains_head name (names_in folder held))
      | false ↦ λ _ later.
          contains_in (name_in folder e.0.items) (names_in folder held) name (there_named folder name is held later)
    ] refl has

pub names_are_in : (held : Held) (folder : List ℕ) → AreNamesIn (nodes_of held) folder (names_in folder held)
names_are_in held folder =
    let found = λ (name : List ℕ).
    ap is_some (get-from_entries nat_list_cmp_total (entries_of held) (path_in folder name)) in
    record {
      there = λ name has. found name ∙ named_there folder name held has;
      all = λ name is has. there_named folder name is held (sym (found name) ∙ has);
    }

rest_at : (names : List (List ℕ)) (at : ℕ) (name : List ℕ) → at < length names → get_or names at name ≡ name
    → get_or (drop at names) 0 name ≡ name
rest_at names at name within is = grind (arith, common_steps)

some_left : (names : List (List ℕ)) (at : ℕ) → at < length names → 0 < length (drop at names)
some_left names at within = grind (arith, common_steps)

-- the next name isn't UTF-8
pub next_unnamed : (names : List (List ℕ)) (at : ℕ) (name : List ℕ) → at < length names → get_or names at name ≡ name
    → (IsUtf8 name → ⊥) → HasUnnamed (drop at names)
next_unnamed names at name within is no_text =
    (name, (0, some_left names at within, rest_at names at name within is), no_text)
