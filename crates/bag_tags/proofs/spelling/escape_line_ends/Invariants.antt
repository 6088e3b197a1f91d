use Rattle.std.proofs.Common.{◌≡◌, string_bytes}
use Rattle.std.specs.Str.{encode_utf8_all}
use Rattle.bag_tags.specs.PathSpelling as spec
use Rattle.bag_tags.proofs.spelling.escape_line_ends.Given as goal

abbrev pub invariant-loop-c : goal.invariant-loop-c
invariant-loop-c l = string_bytes l.text ≡ spec.escape_line_ends (encode_utf8_all l.yielded)
