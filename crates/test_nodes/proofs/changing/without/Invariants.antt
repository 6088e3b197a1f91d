use Rattle.std.proofs.Common.{◌≡◌}
use Rattle.std.specs.FinMap as map
use Rattle.test_nodes.specs.Held.{entries_of, nodes_of}
use Rattle.test_nodes.proofs.HeldGone.{with_others}
use Rattle.test_nodes.proofs.changing.without.Given as goal

abbrev pub invariant-loop-at : goal.invariant-loop-at
invariant-loop-at l = with_others l.path (nodes_of l.left.entries) (entries_of l.at-iterator)
    ≡ with_others l.path map.empty (entries_of l.nodes.entries)
