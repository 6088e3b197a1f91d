use Rattle.std.proofs.Common.{◌∙◌, ap}
use Rattle.test_nodes.specs.Held.{nodes_of}
use Rattle.test_nodes.proofs.HeldPut.{nodes_put}
use Rattle.test_nodes.proofs.changing.put_node.Goals as goal

pub returns-clause-put : goal.returns-clause-put
returns-clause-put c = ap nodes_of c.in_ok-insert.ensures.entries
    ∙ nodes_put c.args.nodes.now.entries c.args.path c.args.node
