use Rattle.bag_text.proofs.Common.{◌≡◌, string_bytes, encode_utf8_all, escape}
use Rattle.bag_text.proofs.path.escape_path.Given as goal

abbrev pub invariant-loop-c : goal.invariant-loop-c
invariant-loop-c l = string_bytes l.text ≡ escape (encode_utf8_all l.yielded)
