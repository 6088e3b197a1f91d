use Rattle.bag_program.proofs.Common.{inl, inr, refl, append-nil, err_from_is_err_and}
use Rattle.bag_program.proofs.text.write_text.Goals as goal

pub returns-in_err-put_pieces : goal.returns-in_err-put_pieces
returns-in_err-put_pieces g c =
    let cut = c.in_err-put_pieces.ensures in
    rw (err_from_is_err_and c.from_residual.result c.from_residual.ensures.1).1
    (inr (refl, cut.1, refl, rw (append-nil c.args.text.now) at cut.0))

pub returns : goal.returns
returns g c = inl (refl, refl, rw (append-nil c.args.text.now) at c.in_ok-put_pieces.ensures)
