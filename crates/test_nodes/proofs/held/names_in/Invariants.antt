use Rattle.std.proofs.Common.{◌≡◌, ◌++◌}
use Rattle.test_nodes.specs.Held.{names_in}
use Rattle.test_nodes.proofs.held.names_in.Given as goal

abbrev pub invariant-loop-path : goal.invariant-loop-path
invariant-loop-path l = l.names ++ names_in l.folder l.path-iterator ≡ names_in l.folder l.nodes.entries
