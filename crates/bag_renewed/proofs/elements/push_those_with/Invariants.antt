use Rattle.std.proofs.Common.{◌++◌, ◌≡◌, take}
use Rattle.std.specs.Prelude.{filter}
use Rattle.bag_renewed.specs.Elements.{has_label}
use Rattle.bag_renewed.proofs.elements.push_those_with.Given as goal

abbrev pub invariant-loop-element : goal.invariant-loop-element
invariant-loop-element l =
    l.made.items ≡ l.fn.made.items ++ filter (has_label l.label) (take l.element-index l.elements)
