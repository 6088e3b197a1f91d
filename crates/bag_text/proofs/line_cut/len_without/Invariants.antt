use Rattle.bag_text.proofs.Common.{◌≤◌, ◌-◌, length, Nowhere, Passes, is_byte2}
use Rattle.bag_text.proofs.line_cut.len_without.Given as goal

abbrev pub invariant-loop-end : goal.invariant-loop-end
invariant-loop-end
    l = record { within : l.end ≤ length l.bytes; nowhere : Nowhere (Passes (is_byte2 l.a l.b) l.bytes) 0 l.end }

abbrev pub decreases-loop-end : goal.decreases-loop-end
decreases-loop-end l = length l.bytes - l.end
