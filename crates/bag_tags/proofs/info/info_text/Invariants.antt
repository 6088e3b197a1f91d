use Rattle.bag_tags.proofs.Common.{◌≡◌, take, string_bytes}
use Rattle.bag_tags.specs.Element as spec
use Rattle.bag_tags.proofs.info.info_text.Given as goal

abbrev pub invariant-loop-element : goal.invariant-loop-element
invariant-loop-element l = string_bytes l.text ≡ spec.info_text (take l.element-index l.elements)
