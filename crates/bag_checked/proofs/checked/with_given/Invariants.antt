use Rattle.bag_checked.proofs.Common.{Contains, ◌⊎◌, Alg}
use Rattle.bag_stages.specs.Expected.{Expected}
use Rattle.bag_stages.specs.Unpacking.{still_packed}
use Rattle.bag_checked.proofs.checked.with_given.Given as goal

abbrev pub invariant-loop-alg : goal.invariant-loop-alg
invariant-loop-alg l =
    ((one : Expected) → Contains l.expected one → Contains l.all one.alg ⊎ Contains (still_packed l.alg-iterator) one)
    × ((alg : Alg) → Contains l.fn.algs alg → Contains l.all alg)
