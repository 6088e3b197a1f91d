use Rattle.bag_facts.proofs.Common.{◌≡◌}
use Rattle.bag_facts.proofs.pooling.share_paths.Given as goal

abbrev pub invariant-loop-k : goal.invariant-loop-k
invariant-loop-k l = l.files ≡ l.initial.files
