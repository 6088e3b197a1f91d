use Rattle.bag_text.proofs.Common.{◌≡◌, take, filter, has_member}
use Rattle.bag_text.proofs.alg_set.AlgSet.members.Given as goal

abbrev pub invariant-loop-alg : goal.invariant-loop-alg
invariant-loop-alg l = l.members.items ≡ filter (has_member l.fn.self) (take l.alg-index l.alg-items)
