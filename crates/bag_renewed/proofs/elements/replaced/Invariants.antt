use Rattle.std.proofs.Common.{take}
use Rattle.bag_renewed.proofs.Placing.{PlacedSo}
use Rattle.bag_renewed.proofs.elements.replaced.Given as goal

abbrev pub invariant-loop-element : goal.invariant-loop-element
invariant-loop-element l = PlacedSo l.changes l.made.items l.placed.items (take l.element-index l.elements)
