use Rattle.bag_tags.proofs.Common.{◌≡◌, ◌++◌, take}
use Rattle.bag_tags.specs.OnLines as spec
use Rattle.bag_tags.proofs.long_info.push_on_lines.Given as goal

abbrev pub invariant-loop-byte : goal.invariant-loop-byte
invariant-loop-byte l = l.text.items ≡ l.fn.text.items ++ spec.on_lines (take l.byte-index l.value)
