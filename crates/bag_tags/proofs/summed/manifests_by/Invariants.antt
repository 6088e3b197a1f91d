use Rattle.std.proofs.Common.{◌≡◌, take}
use Rattle.bag_tags.specs.Summed.{manifests_by}
use Rattle.bag_tags.proofs.summed.manifests_by.Given as goal

abbrev pub invariant-loop-alg : goal.invariant-loop-alg
invariant-loop-alg l = l.manifests.items ≡ manifests_by l.fn.rules l.fn.kind (take l.alg-index l.algs) l.fn.files
