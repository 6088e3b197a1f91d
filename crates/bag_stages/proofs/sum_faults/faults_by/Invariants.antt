use Rattle.bag_stages.proofs.Common.{◌≡◌, ◌++◌, ℕ, List, filter_map, differing, faults_of_bytes, AreSumsBy}
use Rattle.bag_stages.specs.Unpacking.{still_packed}
use Rattle.bag_stages.proofs.sum_faults.faults_by.Given as goal

abbrev pub invariant-loop-alg : goal.invariant-loop-alg
invariant-loop-alg l = record {
  faults : (content : List ℕ) → AreSumsBy l.expected content l.sums
      → l.faults.items ++ filter_map (differing l.path content) (still_packed l.alg-iterator)
      ≡ faults_of_bytes l.path content l.expected;
  among : (content : List ℕ) → AreSumsBy l.expected content l.sums
      → AreSumsBy (still_packed l.alg-iterator) content l.sums;
}
