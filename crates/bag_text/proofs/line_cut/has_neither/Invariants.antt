use Rattle.bag_text.proofs.Common.{◌≡◌, not, take, list_all, is_byte2}
use Rattle.bag_text.proofs.line_cut.has_neither.Given as goal

abbrev pub invariant-loop-byte : goal.invariant-loop-byte
invariant-loop-byte l = l.all ≡ list_all (λ c. not (is_byte2 l.a l.b c)) (take l.byte-index l.bytes)
