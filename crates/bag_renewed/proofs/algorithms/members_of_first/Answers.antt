use Rattle.bag_renewed.proofs.Common.{◌&&◌, not, has_member}
use Rattle.std.proofs.Common.{rules}
use Rattle.bag_renewed.proofs.algorithms.members_of_first.Goals as goal

pub returns : goal.returns
returns c = c.passing.ensures (λ alg. has_member c.args.set alg && not (has_member c.args.other alg)) (λ alg b told. search rules)
