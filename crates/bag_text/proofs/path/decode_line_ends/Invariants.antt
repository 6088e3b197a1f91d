use Rattle.bag_text.proofs.Common.{◌≡◌, ◌++◌, length, string_bytes, Utf8, shadow}
use Rattle.bag_text.specs.Spelling as spec
use Rattle.bag_text.proofs.path.decode_line_ends.Given as goal

abbrev pub invariant-loop-plain : goal.invariant-loop-plain
invariant-loop-plain l = record {
  utf8 : shadow (Utf8 l.rest);
  read : spec.with_line_ends l.fn.text ≡ string_bytes l.path ++ spec.with_line_ends l.rest;
}

abbrev pub decreases-loop-plain : goal.decreases-loop-plain
decreases-loop-plain l = length l.rest
