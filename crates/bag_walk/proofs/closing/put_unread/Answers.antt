use Rattle.bag_walk.proofs.Common.{codes, err_from_is_err_and, field}
use Rattle.bag_tree.proofs.Writing.{cut_third, writes_third}
use Rattle.bag_walk.proofs.closing.put_unread.Goals as goal

pub returns-in_err-put_line : goal.returns-in_err-put_line
returns-in_err-put_line g c =
    let p = err_from_is_err_and c.from_residual.result c.from_residual.ensures.1 in
    rw p.1 (
      cut_third _ _ (field c.args.name.now) (codes " unread ") _ c.in_err-put_line.ensures.0,
      c.in_err-put_line.ensures.1,
    )

pub returns : goal.returns
returns g c =
    writes_third (g.W.Out.state c.args.out.now) (g.W.Out.state c.put_line.new.out) (g.W.Out.state c.put_line-2.new.out)
    (field c.args.name.now) (codes " unread ") _ _
    (rw (c.as_str.ensures, c.word.ensures, c.format.ensures.text) at c.put_line-2.ensures) c.in_ok-put_line.ensures
