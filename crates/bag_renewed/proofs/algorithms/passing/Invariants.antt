use Rattle.bag_renewed.proofs.Common.{◌≡◌, Bool, Alg, take, algs_where}
use Rattle.bag_renewed.proofs.AlgsMade.{passing}
use Rattle.bag_renewed.specs.Target.{Tells}
use Rattle.bag_renewed.proofs.algorithms.passing.Given as goal

abbrev pub invariant-loop-alg : goal.invariant-loop-alg
invariant-loop-alg g l =
    (p : Alg → Bool) → Tells (goal.F-post g l.fn.test) p
    → l.algs ≡ algs_where (passing p (take l.alg-index l.alg-items))
