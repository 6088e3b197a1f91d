use Rattle.bag_renewed.proofs.Common.{has_file, tag_path, Manifest}
use Rattle.std.proofs.Common.{rules}
use Rattle.bag_renewed.proofs.algorithms.algs_there.Goals as goal

pub returns : goal.returns
returns c = λ bag of deep.
    c.passing.ensures (λ alg. has_file bag (tag_path (Manifest c.args.kind alg))) (λ alg b told. search (rules, of, deep))
