use Rattle.bag_text.proofs.Common.{IsPermutation}
use Rattle.bag_text.proofs.path_order.move_to.Given as goal

abbrev pub invariant-loop : goal.invariant-loop
invariant-loop g l = IsPermutation l.initial.items l.items
