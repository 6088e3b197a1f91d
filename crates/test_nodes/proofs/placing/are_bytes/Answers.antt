use Rattle.test_nodes.proofs.Placed.{bytes_below}
use Rattle.test_nodes.proofs.placing.are_bytes.Goals as goal

pub returns : goal.returns
returns c = bytes_below c.args.bytes.now c.type_inv.bytes
