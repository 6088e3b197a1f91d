use Rattle.bag_renew_cli.proofs.Common.{rules}
use Rattle.bag_renew_cli.specs.Listed.{has_alg, names_in}
use Rattle.bag_renew_cli.proofs.listed.algs_among.Goals as goal

pub returns : goal.returns
returns c = c.passing.ensures (has_alg (names_in c.args.text.now)) (λ alg b told. search rules)
