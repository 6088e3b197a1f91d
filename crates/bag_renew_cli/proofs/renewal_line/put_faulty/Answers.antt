use Rattle.bag_renew_cli.proofs.Common.{◌++◌, codes, err_from_is_err_and, field, fault_line}
use Rattle.bag_tree.proofs.Writing.{after_part, cut_part}
use Rattle.bag_renew_cli.proofs.Lines.{faulty_line}
use Rattle.bag_renew_cli.proofs.renewal_line.put_faulty.Goals as goal

pub returns-in_err-put_line : goal.returns-in_err-put_line
returns-in_err-put_line g c =
    let name = field c.args.name.now in
    let line = fault_line c.args.fault.now in
    rw (err_from_is_err_and c.from_residual.result c.from_residual.ensures.1).1 (
      cut_part _ _ (name ++ (codes " not renewed: " ++ codes "fault ")) (line ++ codes "\n") _
          (faulty_line name line) c.in_err-put_line.ensures.0,
      c.in_err-put_line.ensures.1,
    )

pub returns : goal.returns
returns g c =
    let name = field c.args.name.now in
    let line = fault_line c.args.fault.now in
    after_part (g.W.Out.state c.args.out.now) (g.W.Out.state c.put_line.new.out) (g.W.Out.state c.put.new.out)
    (name ++ (codes " not renewed: " ++ codes "fault ")) (line ++ codes "\n") _ _ (faulty_line name line)
    c.in_ok-put_line.ensures c.put.ensures
