-- What stands where, after something was moved with all that is below it.
use Rattle.bag_tree.proofs.Common.{◌≡◌, ℕ, List, [], ◌∷◌, length, length-append, drop, Option, None, Some, is_some}
use Rattle.bag_tree.proofs.Common.{cond, Bool, true, false, refl, ap, sym, ◌∙◌, arith, and_parts, false≢true}
use Rattle.bag_tree.proofs.Common.{front_rest, find, is_sorted, get-empty, get-entries, get-insert, entries_sorted}
use Rattle.bag_tree.proofs.Common.{nat_list_cmp_total, eq_by_cmp, text_cmp, slash, under, ByPath, is_within, moved}
use Rattle.bag_tree.proofs.Common.{renamed, with_renamed, MovedIsThere}
use Rattle.std.specs.FinMap as map
use Rattle.bag_tree.proofs.SameText.{one_text, text_itself}
use Rattle.bag_tree.proofs.PathEntries.{none_below, t_true}
use Rattle.bag_tree.proofs.Within.{within_cases, itself_within, under_within, goes_itself, goes_under, stays}

abbrev or_else : {V : Type 0} → Option V → Option V → Option V
or_else None other = other
or_else (Some n) other = Some n

or_none : {V : Type 0} (o : Option V) → or_else o None ≡ o
or_none o = grind arith

abbrev Entries : Type 0 → Type 0
Entries V = List (List ℕ × V)

-- of what is there, this alone has come to the path
abbrev ComesAlone : {V : Type 0} → List ℕ → List ℕ → List ℕ → List ℕ → Entries V → Type 0
ComesAlone from to q p es = (k : List ℕ) → is_some (find text_cmp k es) ≡ true → renamed from to k ≡ q → k ≡ p

kept : {V : Type 0} (b : Bool) (n : V) (o : Option V) → is_some o ≡ true → is_some (cond b (Some n) o) ≡ true
kept b n o has = grind arith

first_found : {V : Type 0} (e : List ℕ × V) (es : Entries V) → is_some (find text_cmp e.0 (e ∷ es)) ≡ true
first_found e es = ap (λ b. is_some (cond b (Some e.1) (find text_cmp e.0 es))) (text_itself e.0)

one_came : {V : Type 0} (from to q p : List ℕ) (es : Entries V) (all : ByPath V) → is_sorted text_cmp es ≡ true
    → renamed from to p ≡ q → ComesAlone from to q p es
    → map.get (with_renamed from to all es) q ≡ or_else (find text_cmp p es) (map.get all q)
one_came from to q p [] all sorted goes alone = refl
one_came from to q p (e ∷ es) all sorted goes alone =
    let parts = and_parts _ _ sorted in
    let others =
    one_came from to q p es (map.insert all (renamed from to e.0) e.1) parts.1 goes (λ k found.
    alone k (kept (eq_by_cmp text_cmp k e.0) e.1 (find text_cmp k es) found)) in
    grind (
      arith,
      others,
      get-insert nat_list_cmp_total all (renamed from to e.0) e.1 q,
      one_text p e.0,
      one_text q (renamed from to e.0),
      none_below e.0 es parts.0,
      alone e.0 (first_found e es),
      text_itself p,
      text_itself q,
    )

none_came : {V : Type 0} (from to q : List ℕ) (es : Entries V) (all : ByPath V)
    → ((k : List ℕ) → is_some (find text_cmp k es) ≡ true → renamed from to k ≡ q → ⊥)
    → map.get (with_renamed from to all es) q ≡ map.get all q
none_came from to q [] all none = refl
none_came from to q (e ∷ es) all none =
    let others =
    none_came from to q es (map.insert all (renamed from to e.0) e.1) (λ k found.
    none k (kept (eq_by_cmp text_cmp k e.0) e.1 (find text_cmp k es) found)) in
    grind (
      arith,
      others,
      get-insert nat_list_cmp_total all (renamed from to e.0) e.1 q,
      one_text q (renamed from to e.0),
      none e.0 (first_found e es),
    )

longer : (top rest : List ℕ) → top ≡ under top rest → ⊥
longer top rest e = omega (arith, length-append top (slash ∷ rest), ap length e)

same_rest : (top r s : List ℕ) → under top r ≡ under top s → r ≡ s
same_rest top r s e =
    ap (drop 1) (sym (front_rest (under top r) top (slash ∷ r) refl) ∙ ap (drop (length top)) e
    ∙ front_rest (under top s) top (slash ∷ s) refl)

-- what comes to a path is what was within, or what stays
came_cases : (P : Type 0) (from to q k : List ℕ) → renamed from to k ≡ q → (k ≡ from → to ≡ q → P)
    → ((rest : List ℕ) → k ≡ under from rest → under to rest ≡ q → P) → (is_within from k ≡ false → k ≡ q → P) → P
came_cases P from to q k goes itself below outside = grind (arith, within_cases, goes_itself, goes_under, stays)

pub moves_all : {V : Type 0} → MovedIsThere V
moves_all {V} all from to free = record {
  arrived =
      came to from (goes_itself from to) (λ k found goes.
      grind (
        arith,
        within_cases from k,
        goes_under from to,
        stays from to k,
        longer to,
        nothing k found,
        free to (itself_within to),
      ));
  arrived_below = λ rest.
      came (under to rest) (under from rest) (goes_under from to rest) (λ k found goes.
      came_cases (k ≡ under from rest) from to (under to rest) k goes
      (λ _ e. absurd (longer to rest e)) (λ other e same. e ∙ ap (under from) (same_rest to other rest same)) (λ _ e.
      absurd (nothing k found (ap (map.get all) e ∙ free (under to rest) (under_within to rest)))));
  left = λ q within outside.
      none_came from to q (map.entries all) map.empty
      (λ k found goes. grind (
        arith,
        within_cases from k,
        goes_itself from to,
        goes_under from to,
        stays from to k,
        itself_within to,
        under_within to,
      )) ∙ get-empty text_cmp q;
  others = λ q off outside.
      came q q (stays from to q off) (λ k found goes.
      grind (
        arith,
        within_cases from k,
        goes_itself from to,
        goes_under from to,
        stays from to k,
        itself_within to,
        under_within to,
      ));
}
  where
    nothing : (k : List ℕ) → is_some (find text_cmp k (map.entries all)) ≡ true → map.get all k ≡ None → ⊥
    nothing k found none = false≢true (sym (ap is_some (sym (get-entries all k) ∙ none)) ∙ found)

    came : (q p : List ℕ) → renamed from to p ≡ q → ComesAlone from to q p (map.entries all)
        → map.get (moved from to all) q ≡ map.get all p
    came q p goes alone =
        one_came from to q p (map.entries all) map.empty (t_true _ (entries_sorted all)) goes alone
        ∙ ap (or_else (find text_cmp p (map.entries all))) (get-empty text_cmp q)
        ∙ or_none (find text_cmp p (map.entries all)) ∙ sym (get-entries all p)
