use Rattle.bag_text.proofs.Common.{IsPermutation-trans}
use Rattle.bag_text.proofs.path_order.move_to.Goals as goal

pub loop-preserved : goal.loop-preserved
loop-preserved g c = IsPermutation-trans _ _ _ c.loop.invariant c.move_from-at.ensures
