use Rattle.bag_renew_cli.proofs.Common.{◌++◌, codes, err_from_is_err_and, field}
use Rattle.bag_tree.proofs.Writing.{after_part, cut_part}
use Rattle.bag_renew_cli.proofs.Lines.{path_line}
use Rattle.bag_renew_cli.proofs.renewal_line.put_path.Goals as goal

pub returns-in_err-put_line : goal.returns-in_err-put_line
returns-in_err-put_line g c =
    let name = field c.args.name.now in
    let path = field c.args.path.now in
    rw (err_from_is_err_and c.from_residual.result c.from_residual.ensures.1).1 (
      cut_part _ _ (name ++ codes " not renewed: ") (path ++ (c.args.said.now ++ codes "\n")) _
          (path_line name path c.args.said.now) c.in_err-put_line.ensures.0,
      c.in_err-put_line.ensures.1,
    )

pub returns : goal.returns
returns g c =
    let name = field c.args.name.now in
    let path = field c.args.path.now in
    after_part (g.W.Out.state c.args.out.now) (g.W.Out.state c.put_line.new.out) (g.W.Out.state c.put_line-2.new.out)
    (name ++ codes " not renewed: ") (path ++ (c.args.said.now ++ codes "\n")) _ _
    (path_line name path c.args.said.now) c.in_ok-put_line.ensures c.put_line-2.ensures
