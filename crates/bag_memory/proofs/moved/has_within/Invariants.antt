use Rattle.bag_memory.proofs.Common.{◌≡◌, list_any, is_within}
use Rattle.bag_memory.proofs.moved.has_within.Given as goal

abbrev pub invariant-loop-path : goal.invariant-loop-path
invariant-loop-path l = list_any (λ e. is_within l.top e.0) l.path-iterator
    ≡ list_any (λ e. is_within l.top e.0) l.files.entries
