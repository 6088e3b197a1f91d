-- Hashers that take bytes, one after another.
use Rattle.bag_tree.proofs.Common.{◌≡◌, ◌≢◌, ℕ, ◌<◌, ◌≤◌, ◌+◌, List, ◌++◌, Option, None, length, get_or, set, subst}
use Rattle.bag_tree.proofs.Common.{arith, below_more, get_or-set_same, get_or-set_other, Alg, HoldsWhere}
use Rattle.bag_tree.specs.declared.hasher.Hasher.{Hasher}

-- what is held in place of a message is the message and these bytes
abbrev pub IsUpdated : Option Hasher → Option Hasher → List ℕ → Type 0
IsUpdated old new bytes = (asked : List Alg) (alg : Alg) (message : List ℕ) → HoldsWhere asked alg message old
    → HoldsWhere asked alg (message ++ bytes) new

-- the first n of some hashers have taken the bytes, and the others haven't
pub record AreUpdatedTo (n : ℕ) (old new : List (Option Hasher)) (bytes : List ℕ) : Type 0 where
  pub done : (k : ℕ) → k < n → IsUpdated (get_or old k None) (get_or new k None) bytes
  pub rest : (k : ℕ) → n ≤ k → get_or new k None ≡ get_or old k None

pub one_more : (n : ℕ) (old new : List (Option Hasher)) (bytes : List ℕ) (hasher : Option Hasher)
    → AreUpdatedTo n old new bytes → n < length new → IsUpdated (get_or new n None) hasher bytes
    → AreUpdatedTo (n + 1) old (set new n hasher) bytes
one_more n old new bytes hasher before within updated = record {
  done = below_more _ _
      (λ k h. let other : k ≢ n = omega arith in rw get_or-set_other (before.done k h))
      (rw get_or-set_same (subst (λ old. IsUpdated old hasher bytes) (before.rest n (omega arith)) updated));
  rest = λ k h. let other : k ≢ n = omega arith in rw get_or-set_other (before.rest k (omega arith));
}
