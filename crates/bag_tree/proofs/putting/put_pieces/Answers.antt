use Rattle.bag_tree.proofs.Common.{err_from_is_err_and}
use Rattle.bag_tree.proofs.Writing.{pieces_cut}
use Rattle.bag_tree.proofs.putting.put_pieces.Goals as goal

pub returns-in_err-put_all : goal.returns-in_err-put_all
returns-in_err-put_all g c =
    let p = err_from_is_err_and c.from_residual.result c.from_residual.ensures.1 in
    rw p.1 (
      pieces_cut _ _ _ _ c.loop-piece.piece-index _ c.loop-piece-test.true c.loop-piece.invariant
          (rw c.as_bytes.ensures.value at c.in_err-put_all.ensures.0),
      c.in_err-put_all.ensures.1,
    )
