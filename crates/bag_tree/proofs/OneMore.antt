-- The first items of a list, and one more.
use Rattle.bag_tree.proofs.Common.{◌≡◌, ◌<◌, ◌+◌, ◌++◌, ◌∷◌, ℕ, zero, suc, List, [], ap, arith, get_or, length, sym, take}
use Rattle.bag_tree.proofs.Common.{add-one}

take_suc_more : {A : Type 0} (xs : List A) (i : ℕ) (x : A) → i < length xs → x ≡ get_or xs i x
    → take (suc i) xs ≡ take i xs ++ x ∷ []
take_suc_more [] i x lt e = absurd (omega arith)
take_suc_more (y ∷ xs) zero x lt e = ap (λ z. z ∷ []) (sym e)
take_suc_more (y ∷ xs) (suc i) x lt e = ap (λ ys. y ∷ ys) (take_suc_more xs i x (omega arith) e)

pub take_one_more : {A : Type 0} (xs : List A) (i : ℕ) (x : A) → i < length xs → x ≡ get_or xs i x
    → take (i + 1) xs ≡ take i xs ++ x ∷ []
take_one_more xs i x lt e = rw add-one (take_suc_more xs i x lt e)
