use Rattle.std.proofs.Common.{◌≡◌}
use Rattle.std.specs.FinMap as map
use Rattle.bag_tree.specs.Moved.{with_renamed}
use Rattle.test_nodes.specs.Held.{entries_of, nodes_of}
use Rattle.test_nodes.proofs.changing.moved.Given as goal

abbrev pub invariant-loop-path : goal.invariant-loop-path
invariant-loop-path l = with_renamed l.from l.to (nodes_of l.moved.entries) (entries_of l.path-iterator)
    ≡ with_renamed l.from l.to map.empty (entries_of l.nodes.entries)
