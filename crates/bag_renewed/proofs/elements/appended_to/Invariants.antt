use Rattle.std.proofs.Common.{◌++◌, ◌≡◌, not, take}
use Rattle.std.specs.Prelude.{filter}
use Rattle.std.specs.List.{list_any}
use Rattle.bag_renewed.specs.Elements.{is_same}
use Rattle.bag_renewed.proofs.elements.appended_to.Given as goal

abbrev pub invariant-loop-element : goal.invariant-loop-element
invariant-loop-element l =
    l.made.items
    ≡ filter (λ element. not (list_any (is_same element) (l.first ++ l.others)))
    (take l.element-index l.element-items)
