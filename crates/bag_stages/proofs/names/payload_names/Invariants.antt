use Rattle.bag_stages.proofs.Common.{◌↔◌, ℕ, List, take, Contains, IfBagRead, texts_of, IsNameOf}
use Rattle.bag_stages.proofs.names.payload_names.Given as goal

abbrev pub invariant-loop-alg : goal.invariant-loop-alg
invariant-loop-alg l = IfBagRead l.facts (λ bag.
    (path : List ℕ) → Contains (texts_of l.names.items) path ↔ IsNameOf bag (take l.alg-index l.alg-items) path)
