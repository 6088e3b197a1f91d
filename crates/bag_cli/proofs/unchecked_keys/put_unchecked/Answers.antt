use Rattle.bag_cli.proofs.Common.{err_from_is_err_and, IsCut-append, writes_after}
use Rattle.bag_cli.proofs.unchecked_keys.put_unchecked.Goals as goal

pub returns-in_err-put_pieces : goal.returns-in_err-put_pieces
returns-in_err-put_pieces g c =
    rw (err_from_is_err_and c.from_residual.result c.from_residual.ensures.1).1
    (IsCut-append _ _ _ _ c.in_err-put_pieces.ensures.0, c.in_err-put_pieces.ensures.1)

pub returns : goal.returns
returns g c =
    writes_after (g.O.Out.state c.args.out.now) (g.O.Out.state c.put_pieces.new.out) (g.O.Out.state c.put_line.new.out)
    _ _ _ c.put_line.ensures c.in_ok-put_pieces.ensures
