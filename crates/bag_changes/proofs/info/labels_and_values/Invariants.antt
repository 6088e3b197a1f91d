use Rattle.bag_changes.proofs.Common.{◌≡◌, take}
use Rattle.bag_changes.specs.NewInfo.{labels_and_values}
use Rattle.bag_changes.proofs.info.labels_and_values.Given as goal

abbrev pub invariant-loop-element : goal.invariant-loop-element
invariant-loop-element l = l.made.items ≡ labels_and_values (take l.element-index l.elements)
