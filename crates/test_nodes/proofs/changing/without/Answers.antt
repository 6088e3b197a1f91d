use Rattle.std.proofs.Common.{◌≡◌, rules}
use Rattle.std.specs.FinMap as map
use Rattle.test_nodes.specs.Held.{entries_of, nodes_of}
use Rattle.test_nodes.proofs.HeldGone.{held_without, with_others}
use Rattle.test_nodes.proofs.changing.without.Goals as goal

pub returns : goal.returns
returns c =
    let is :
    nodes_of c.loop-at.left.entries
    ≡ with_others c.args.path.now map.empty (entries_of c.args.nodes.now.entries) = search rules in
    held_without c.args.nodes.now.entries c.args.path.now (nodes_of c.loop-at.left.entries)
    c.iter-at-items.ensures.ordered is
