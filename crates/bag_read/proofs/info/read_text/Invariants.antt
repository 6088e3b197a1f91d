use Rattle.bag_read.proofs.Common.{false, ◌≡◌, enumerate_from, lines, numbered_rest, all_elements, all_faults, elements}
use Rattle.bag_read.proofs.Common.{faults}
use Rattle.bag_read.proofs.info.read_text.Given as goal

abbrev pub invariant-loop-number : goal.invariant-loop-number
invariant-loop-number l =
    (all_elements l.fn.rules l.reader (numbered_rest l.number-iterator)
    ≡ elements l.fn.rules (enumerate_from 1 (lines l.text)))
    × (all_faults l.fn.rules l.reader (numbered_rest l.number-iterator)
    ≡ faults l.fn.rules false (enumerate_from 1 (lines l.text)))
