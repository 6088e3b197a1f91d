use Rattle.bag_make.proofs.Common.{◌≡◌, take}
use Rattle.bag_make.proofs.texts.copies.Given as goal

abbrev pub invariant-loop-element : goal.invariant-loop-element
invariant-loop-element l = l.copies.items ≡ take l.element-index l.elements
