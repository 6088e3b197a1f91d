-- Cutting a text back to what it was.
use Rattle.bag_faults.proofs.Common.{◌≡◌, ℕ, ◌≤◌, List, length, take, true, Result, Ok, Err, sym, subst, OnErr, is_err}
use Rattle.bag_faults.proofs.Common.{IsUtf8, IsCharBoundary, IsCharBoundary-from_take}

-- what a failed call says
pub at_failure : {T E : Type 0} {P : Type 0} (r : Result T E) → is_err r ≡ true → OnErr r P → P
at_failure (Ok x) e p = cc
at_failure (Err x) e p = p

-- a text that begins with a text may be cut after it
pub boundary : (old new : List ℕ) (n : ℕ) → IsUtf8 old → IsUtf8 new → n ≤ length new → take n new ≡ old
    → IsCharBoundary new n
boundary old new n whole grown inside same = IsCharBoundary-from_take new n grown inside (subst IsUtf8 (sym same) whole)
