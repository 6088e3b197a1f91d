use Rattle.bag_disk.proofs.Common.{◌∙◌, sym, arith, ltb-true}
use Rattle.bag_disk.proofs.DiskCount.{found_fit}
use Rattle.bag_disk.proofs.limit.are_too_many.Goals as goal
use Rattle.bag_disk.proofs.limit.are_too_many.Goals.{then-len, else-len}

pub returns : goal.returns
returns c = λ is nodes there.
    elim c.if-len.branch [
      | then-len w ↦
          let fit =
          found_fit nodes _ _ c.sort_in_place.ensures.permutation
          (rw w.as_slice.ensures.value at (w.all_differ.ensures.0 (sym w.result-is ∙ is))) there in
          omega (arith, fit, w.if-len.true, c.len.ensures)
      | else-len w ↦ let more = ltb-true 16777216 c.len.result (sym w.result-is ∙ is)
          in absurd (omega (arith, more, w.if-len.false))
    ]
