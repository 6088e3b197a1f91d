use Rattle.bag_faults.proofs.Common.{arith, err_from_is_err_and}
use Rattle.bag_tree.proofs.Writing.{taken_piece, cut_piece}
use Rattle.bag_faults.proofs.field.put_field.Goals as goal

pub loop-piece-preserved : goal.loop-piece-preserved
loop-piece-preserved g c = grind (arith, taken_piece)

pub returns-in_err-put_all : goal.returns-in_err-put_all
returns-in_err-put_all g c =
    let p = err_from_is_err_and c.from_residual.result c.from_residual.ensures.1 in
    rw p.1 (
      cut_piece _ _ _ _ _ c.in-Some.piece.now _ c.loop-piece.invariant c.in-Some.ensures.steps
          (rw c.as_bytes.ensures.value at c.in_err-put_all.ensures.0),
      c.in_err-put_all.ensures.1,
    )
