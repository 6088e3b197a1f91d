use Rattle.bag_renewed.proofs.Common.{◌||◌, has_member}
use Rattle.std.proofs.Common.{rules}
use Rattle.bag_renewed.proofs.algorithms.members_of_either.Goals as goal

pub returns : goal.returns
returns c = c.passing.ensures (λ alg. has_member c.args.some alg || has_member c.args.more alg) (λ alg b told. search rules)
