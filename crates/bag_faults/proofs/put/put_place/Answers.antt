use Rattle.bag_faults.proofs.Common.{◌++◌, codes, err_from_is_err_and, field, alg_field}
use Rattle.bag_faults.specs.FaultParts.{end}
use Rattle.bag_tree.proofs.Writing.{after_part, cut_part}
use Rattle.bag_faults.proofs.PutParts.{place_line}
use Rattle.bag_faults.proofs.put.put_place.Goals as goal

pub returns-in_err-put_line : goal.returns-in_err-put_line
returns-in_err-put_line g c =
    let f = c.args.fault.now in
    let p = rw (c.as_str.ensures, c.alg_name.ensures) at c.in_err-put_line.ensures in
    rw (err_from_is_err_and c.from_residual.result c.from_residual.ensures.1).1 (
      cut_part _ _ (field f.path ++ (codes " " ++ (alg_field f.alg ++ codes " "))) (end f) _
          (place_line (field f.path) (alg_field f.alg) (end f)) p.0,
      p.1,
    )

pub returns : goal.returns
returns g c =
    let f = c.args.fault.now in
    after_part (g.W.Out.state c.args.out.now) (g.W.Out.state c.put_line.new.out) (g.W.Out.state c.put_end.new.out)
    (field f.path ++ (codes " " ++ (alg_field f.alg ++ codes " "))) (end f) _ _
    (place_line (field f.path) (alg_field f.alg) (end f))
    (rw (c.as_str.ensures, c.alg_name.ensures) at c.in_ok-put_line.ensures) c.put_end.ensures
