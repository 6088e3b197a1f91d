use Rattle.bag_faults.proofs.Common.{err_from_is_err_and}
use Rattle.bag_tree.proofs.Writing.{IsCut-append, writes_after}
use Rattle.bag_faults.proofs.field.put_line.Goals as goal

pub returns-in_err-put_field : goal.returns-in_err-put_field
returns-in_err-put_field g c =
    let p = err_from_is_err_and c.from_residual.result c.from_residual.ensures.1 in
    rw p.1 (IsCut-append _ _ _ _ c.in_err-put_field.ensures.0, c.in_err-put_field.ensures.1)

pub returns : goal.returns
returns g c =
    writes_after (g.W.Out.state c.args.out.now) (g.W.Out.state c.put_field.new.out) (g.W.Out.state c.put_pieces.new.out)
    _ _ _ c.put_pieces.ensures c.in_ok-put_field.ensures
