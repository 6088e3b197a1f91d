use Rattle.bag_cli.proofs.Common.{codes, err_from_is_err_and, field, cut_third, writes_third}
use Rattle.bag_cli.proofs.tar_line.put_no_tree.Goals as goal

pub returns-in_err-put_line : goal.returns-in_err-put_line
returns-in_err-put_line g c =
    rw (err_from_is_err_and c.from_residual.result c.from_residual.ensures.1).1 (
      cut_third _ _ (field c.args.name.now) (codes " unread ") _ c.in_err-put_line.ensures.0,
      c.in_err-put_line.ensures.1,
    )

pub returns : goal.returns
returns g c =
    writes_third (g.W.Out.state c.args.out.now) (g.W.Out.state c.put_line.new.out) (g.W.Out.state c.put_line-2.new.out)
    (field c.args.name.now) (codes " unread ") _ _ (rw c.word.ensures at c.put_line-2.ensures) c.in_ok-put_line.ensures
