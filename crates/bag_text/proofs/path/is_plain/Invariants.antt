use Rattle.bag_text.proofs.Common.{◌≡◌, ℕ, ◌+◌, cond, get_or, IsTrue, Empty, Name}
use Rattle.bag_text.proofs.Paths.{is_slash}
use Rattle.bag_text.proofs.PathReading.{IsReadTo}
use Rattle.bag_text.proofs.path.is_plain.Given as goal

abbrev pub invariant-loop-place : goal.invariant-loop-place
invariant-loop-place l = (k : ℕ) → l.place ≡ k + 1 → IsTrue l.plain
    → IsReadTo (cond (is_slash (get_or l.bytes k 0)) Empty Name) l.bytes (k + 1)
