use Rattle.bag_text.proofs.Common.{◌≡◌, ◌↔◌, None, length, Utf8, shadow}
use Rattle.bag_text.specs.Spelling as spec
use Rattle.bag_text.proofs.path.has_bad_escape.Given as goal

abbrev pub invariant-loop-after : goal.invariant-loop-after
invariant-loop-after l = record {
  utf8 : shadow (Utf8 l.rest);
  alike : (spec.unescaped_strictly l.fn.text ≡ None) ↔ (spec.unescaped_strictly l.rest ≡ None);
}

abbrev pub decreases-loop-after : goal.decreases-loop-after
decreases-loop-after l = length l.rest
