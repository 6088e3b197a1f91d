use Rattle.bag_faults.proofs.Common.{◌++◌, codes, append_assoc, err_from_is_err_and, field, line_field}
use Rattle.bag_tree.proofs.Writing.{after_part, cut_part}
use Rattle.bag_faults.proofs.put.put_end.Goals as goal

pub returns-in_err-put_line_number : goal.returns-in_err-put_line_number
returns-in_err-put_line_number g c =
    let f = c.args.fault.now in
    rw (err_from_is_err_and c.from_residual.result c.from_residual.ensures.1).1 (
      cut_part _ _ (line_field f.line ++ codes " ") (field f.detail ++ codes "\n") _
          (append_assoc (line_field f.line) (codes " ") (field f.detail ++ codes "\n"))
          c.in_err-put_line_number.ensures.0,
      c.in_err-put_line_number.ensures.1,
    )

pub returns : goal.returns
returns g c =
    let f = c.args.fault.now in
    after_part (g.W.Out.state c.args.out.now) (g.W.Out.state c.put_line_number.new.out)
    (g.W.Out.state c.put_line.new.out)
    (line_field f.line ++ codes " ") (field f.detail ++ codes "\n") _ _
    (append_assoc (line_field f.line) (codes " ") (field f.detail ++ codes "\n")) c.in_ok-put_line_number.ensures
    (rw c.as_str.ensures at c.put_line.ensures)
