use Rattle.std.proofs.Common.{◌≡◌, rules}
use Rattle.std.specs.FinMap as map
use Rattle.bag_tree.specs.Moved.{with_renamed}
use Rattle.test_nodes.specs.Held.{entries_of, nodes_of}
use Rattle.test_nodes.proofs.HeldMoved.{held_moved}
use Rattle.test_nodes.proofs.changing.moved.Goals as goal

pub returns : goal.returns
returns c =
    let is : nodes_of c.loop-path.moved.entries ≡ with_renamed c.args.from.now c.args.to.now map.empty (entries_of c.args.nodes.now.entries) = search rules in
    held_moved c.args.nodes.now.entries c.args.from.now c.args.to.now (nodes_of c.loop-path.moved.entries)
    c.iter-path-items.ensures.ordered is
