use Rattle.bag_tags.proofs.Common.{◌≡◌, take}
use Rattle.bag_tags.specs.OnLines as spec
use Rattle.bag_tags.proofs.long_info.text_on_lines.Given as goal

abbrev pub invariant-loop-element : goal.invariant-loop-element
invariant-loop-element l = l.text.items ≡ spec.text_on_lines (take l.element-index l.elements)
