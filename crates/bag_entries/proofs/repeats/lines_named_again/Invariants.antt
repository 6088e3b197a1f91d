use Rattle.bag_entries.proofs.Common.{ℕ, List, ◌↔◌, IsTrue, contains, contains_by, nat_cmp, text_cmp, NamesBelow}
use Rattle.bag_entries.proofs.Common.{RepeatsBelow}
use Rattle.bag_entries.proofs.repeats.lines_named_again.Given as goal

abbrev pub invariant-loop-entry : goal.invariant-loop-entry
invariant-loop-entry l = record {
  paths : (path : List ℕ)
      → IsTrue (contains_by (λ k. text_cmp path k.now) l.paths) ↔ NamesBelow l.entries l.entry-index path;
  lines : (n : ℕ) → IsTrue (contains nat_cmp l.lines n) ↔ RepeatsBelow l.entries l.entry-index n;
}
