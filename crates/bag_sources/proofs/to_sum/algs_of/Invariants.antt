use Rattle.bag_sources.proofs.Common.{◌⊎◌, Expected, Contains}
use Rattle.bag_stages.specs.Unpacking.{still_packed}
use Rattle.bag_sources.proofs.to_sum.algs_of.Given as goal

abbrev pub invariant-loop-alg : goal.invariant-loop-alg
invariant-loop-alg l =
    (one : Expected) → Contains l.expected one → Contains l.algs one.alg ⊎ Contains (still_packed l.alg-iterator) one
