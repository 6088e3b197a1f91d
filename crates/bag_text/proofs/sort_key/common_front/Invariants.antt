use Rattle.bag_text.proofs.SortKeys.{AreAlikeTo}
use Rattle.bag_text.proofs.sort_key.common_front.Given as goal

abbrev pub invariant-loop-place : goal.invariant-loop-place
invariant-loop-place l = AreAlikeTo l.first l.second l.place
