use Rattle.bag_renew_cli.proofs.Common.{◌++◌, codes, field, refl}
use Rattle.std.proofs.Common.{append-nil}
use Rattle.bag_tree.proofs.Writing.{after_part}
use Rattle.bag_renew_cli.proofs.planned_lines.put_file.Goals as goal

pub returns : goal.returns
returns g c =
    after_part (g.W.Out.state c.args.out.now) (g.W.Out.state c.put_line.new.out) (g.W.Out.state c.put_line-2.new.out)
    (field c.args.name.now ++ c.args.what.now) (field c.args.file.now ++ codes "\n") _ _ refl
    (rw (append-nil c.args.what.now) at c.in_ok-put_line.ensures) c.put_line-2.ensures
