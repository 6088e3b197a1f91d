use Rattle.bag_disk.specs.DiskNodes.{IsReachedTo}
use Rattle.test_nodes.specs.Held.{nodes_of}
use Rattle.test_nodes.proofs.placing.is_reached.Given as goal

abbrev pub invariant-loop-end : goal.invariant-loop-end
invariant-loop-end l = IsReachedTo (nodes_of l.nodes.entries) l.path l.end
