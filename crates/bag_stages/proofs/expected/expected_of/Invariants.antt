use Rattle.bag_stages.proofs.Common.{◌≡◌, List, take, IfBagRead, Expected}
use Rattle.bag_stages.specs.Packed.{packed}
use Rattle.bag_stages.proofs.SumFaults.{AreGivenBy}
use Rattle.bag_stages.proofs.expected.expected_of.Given as goal

abbrev pub invariant-loop-alg : goal.invariant-loop-alg
invariant-loop-alg l = (expected : List Expected) × (l.bytes.items ≡ packed expected)
    × IfBagRead l.facts (λ bag. AreGivenBy bag l.path l.kind (take l.alg-index l.alg-items) expected)
