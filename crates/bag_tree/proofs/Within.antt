-- What is at a path or below it, and where it goes.
use Rattle.bag_tree.proofs.Common.{arith, ◌≡◌, ℕ, List, [], ◌∷◌, ◌++◌, append-nil, append_assoc, length, drop, cond}
use Rattle.bag_tree.proofs.Common.{true, false, nat_eq, ◌⊎◌, refl, ap, sym, ◌∙◌, or_right, Decides-eqb, front_rest}
use Rattle.bag_tree.proofs.Common.{starts_is, starts_with, bytes_eq, slash, under, is_within, renamed, common_steps}
use Rattle.bag_tree.proofs.SameText.{one_text, text_itself, same_test}

pub prefix_test : (p t : List ℕ)
    → (starts_with nat_eq t p ≡ true → t ≡ p ++ drop (length p) t)
    × ((rest : List ℕ) → t ≡ p ++ rest → starts_with nat_eq t p ≡ true)
prefix_test p t = starts_is Decides-eqb t p (starts_with nat_eq t p) refl

-- what is within a path is at it, or below it
abbrev pub IsWithin : List ℕ → List ℕ → Type 0
IsWithin top k = (k ≡ top) ⊎ ((rest : List ℕ) × (k ≡ under top rest))

pub within_cases : (top k : List ℕ) → is_within top k ≡ true → IsWithin top k
within_cases top k is =
    grind (arith, one_text top k, same_test k top, prefix_test (top ++ slash ∷ []) k, append_assoc top (slash ∷ []))

pub itself_within : (top : List ℕ) → is_within top top ≡ true
itself_within top = grind (arith, same_test top top, text_itself)

pub under_within : (top rest : List ℕ) → is_within top (under top rest) ≡ true
under_within top rest =
    or_right (bytes_eq (under top rest) top) _
    ((prefix_test (top ++ slash ∷ []) (under top rest)).1 rest (sym (append_assoc top (slash ∷ []) rest)))

pub not_within : (top k : List ℕ) → (IsWithin top k → ⊥) → is_within top k ≡ false
not_within top k none = grind (arith, within_cases)

no_rest : (top : List ℕ) → drop (length top) top ≡ []
no_rest top = grind (arith, common_steps)

-- where it goes
pub goes_itself : (from to : List ℕ) → renamed from to from ≡ to
goes_itself from to =
    ap (λ b. cond b (to ++ drop (length from) from) from) (itself_within from) ∙ ap (λ t. to ++ t) (no_rest from)
    ∙ append-nil to

pub goes_under : (from to rest : List ℕ) → renamed from to (under from rest) ≡ under to rest
goes_under from to rest = grind (arith, under_within, front_rest)

pub stays : (from to k : List ℕ) → is_within from k ≡ false → renamed from to k ≡ k
stays from to k outside = ap (λ b. cond b (to ++ drop (length from) k) k) outside

same_front : (top r s : List ℕ) → top ++ r ≡ top ++ s → r ≡ s
same_front top r s e =
    sym (front_rest (top ++ r) top r refl) ∙ ap (drop (length top)) e ∙ front_rest (top ++ s) top s refl

-- what follows it is nothing, or begins with a slash
pub within_after : (top k rest : List ℕ) → k ≡ top ++ rest → (rest ≡ []) ⊎ (starts_with nat_eq rest (slash ∷ []) ≡ true)
    → is_within top k ≡ true
within_after top k rest parts ends = grind (arith, append-nil, itself_within, prefix_test, under_within)

pub not_after : (top k rest : List ℕ) → k ≡ top ++ rest → (rest ≡ [] → ⊥)
    → (starts_with nat_eq rest (slash ∷ []) ≡ true → ⊥) → is_within top k ≡ false
not_after top k rest parts some unmarked = grind (arith, append-nil top, not_within, same_front, prefix_test)

-- nothing is within what isn't in front of it
pub not_in_front : (top k : List ℕ) → ((rest : List ℕ) → k ≡ top ++ rest → ⊥) → is_within top k ≡ false
not_in_front top k none = grind (arith, append-nil top, not_within)
