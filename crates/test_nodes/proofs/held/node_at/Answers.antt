use Rattle.test_nodes.proofs.HeldNodes.{found_at, match_copied}
use Rattle.test_nodes.proofs.held.node_at.Goals as goal

pub returns : goal.returns
returns c = match_copied c.get.result _ _ c.get.ensures.value (found_at c.args.nodes.now.entries c.args.path.now)
