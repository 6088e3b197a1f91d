use Rattle.bag_text.proofs.Common.{◌≡◌, ◌++◌, length, string_bytes, option_map, Utf8, shadow}
use Rattle.bag_text.specs.Spelling as spec
use Rattle.bag_text.proofs.path.decode.Given as goal

abbrev pub invariant-loop-plain : goal.invariant-loop-plain
invariant-loop-plain l = record {
  utf8 : shadow (Utf8 l.rest);
  read : spec.unescaped_strictly l.fn.text
      ≡ option_map (λ more. string_bytes l.path ++ more) (spec.unescaped_strictly l.rest);
}

abbrev pub decreases-loop-plain : goal.decreases-loop-plain
decreases-loop-plain l = length l.rest
