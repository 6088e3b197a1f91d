use Rattle.bag_renewed.proofs.AlgsMade.{is_member}
use Rattle.bag_renewed.proofs.algorithms.has.Goals as goal

pub returns : goal.returns
returns c = is_member c.has.result c.args.set c.args.alg c.has.ensures
