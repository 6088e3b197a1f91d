use Rattle.bag_renewed.proofs.Placing.{placed_next}
use Rattle.bag_renewed.proofs.elements.replaced.Goals as goal

pub loop-element-preserved : goal.loop-element-preserved
loop-element-preserved c =
    placed_next c.args.changes.now c.args.elements.now c.loop-element.element-index c.element-item.result
    c.loop-element-test.true c.element-item.is c.loop-element.made.items c.push_in_place.new.made.items
    c.loop-element.placed.items c.push_in_place.new.placed.items c.loop-element.invariant
    c.in_ok-push_in_place.ensures.made c.in_ok-push_in_place.ensures.placed
