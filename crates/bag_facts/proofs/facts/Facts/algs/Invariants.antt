use Rattle.bag_facts.proofs.Common.{take, tag_path, Manifest, Bag, HasFile, IsFactsOf}
use Rattle.bag_facts.proofs.AlgsOf.{AreThose}
use Rattle.bag_facts.proofs.facts.Facts.algs.Given as goal

abbrev pub invariant-loop-alg : goal.invariant-loop-alg
invariant-loop-alg l =
    (bag : Bag) → IsFactsOf bag l.self
    → AreThose (λ alg. HasFile bag (tag_path (Manifest l.fn.kind alg))) (take l.alg-index l.alg-items) l.algs
