use Rattle.bag_text.proofs.Common.{Nowhere, Passes, is_byte2}
use Rattle.bag_text.proofs.line_cut.first_of_two.Given as goal

abbrev pub invariant-loop-place : goal.invariant-loop-place
invariant-loop-place l = Nowhere (Passes (is_byte2 l.a l.b) l.bytes) 0 l.place
