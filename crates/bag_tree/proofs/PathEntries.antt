-- The entries of what stands at paths, in their order.
use Rattle.bag_tree.proofs.Common.{eq_by_cmp, sym, ◌≡◌, ℕ, Bool, true, false, cond, List, [], ◌∷◌, Some, None, refl, ap}
use Rattle.bag_tree.proofs.Common.{◌∙◌, and_parts, T, find, below_all, is_lt, is_eq, Less, text_cmp}
use Rattle.std.specs.declared.cmp.Ordering.{Ordering}
use Rattle.bag_tree.proofs.SameText.{one_text}

pub t_true : (b : Bool) → T b → b ≡ true
t_true true h = refl
t_true false h = absurd h

less_differs : (o : Ordering) → is_lt o ≡ true → is_eq o ≡ false
less_differs Less e = refl
less_differs _ e = cc

-- nothing is found at a path that is below all others
pub none_below : {V : Type 0} (k : List ℕ) (es : List (List ℕ × V)) → below_all text_cmp k es ≡ true
    → find text_cmp k es ≡ None
none_below k [] h = refl
none_below k (e ∷ es) h =
    let parts = and_parts _ _ h in
    ap (λ b. cond b (Some e.1) (find text_cmp k es)) (less_differs (text_cmp k e.0) parts.0) ∙ none_below k es parts.1

-- what is found after it is found with it
pub found_later : {V : Type 0} (e : List ℕ × V) (es : List (List ℕ × V)) (k : List ℕ) (v : V)
    → below_all text_cmp e.0 es ≡ true → find text_cmp k es ≡ Some v → find text_cmp k (e ∷ es) ≡ Some v
found_later e es k v below found =
    elim (eq_by_cmp text_cmp k e.0) as
    (λ b. eq_by_cmp text_cmp k e.0 ≡ b → cond b (Some e.1) (find text_cmp k es) ≡ Some v) [
      | true ↦ λ same.
          let both : None ≡ Some v =
          sym (ap (λ p. find text_cmp p es) (one_text k e.0 same) ∙ none_below e.0 es below) ∙ found in cc
      | false ↦ λ _. found
    ] refl
