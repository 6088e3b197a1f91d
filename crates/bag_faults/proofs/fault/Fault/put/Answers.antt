use Rattle.bag_faults.proofs.Common.{◌++◌, codes, decimal, err_from_is_err_and, field, alg_field}
use Rattle.bag_faults.proofs.Common.{line_field, number, word}
use Rattle.bag_faults.specs.FaultParts.{place}
use Rattle.bag_tree.proofs.Writing.{after_part, cut_part}
use Rattle.bag_faults.proofs.PutParts.{fields_line}
use Rattle.bag_faults.proofs.fault.Fault.put.Goals as goal

pub returns-in_err-put_pieces : goal.returns-in_err-put_pieces
returns-in_err-put_pieces g c =
    let f = c.args.self.now in
    let p = rw (c.format.ensures.text, c.number.ensures, c.word.ensures) at c.in_err-put_pieces.ensures in
    rw (err_from_is_err_and c.from_residual.result c.from_residual.ensures.1).1 (
      cut_part _ _ (decimal (number f.code) ++ (codes " " ++ (word f.code ++ codes " "))) (place f) _
          (fields_line (decimal (number f.code)) (word f.code) (field f.path) (alg_field f.alg) (line_field f.line)
          (field f.detail)) p.0,
      p.1,
    )

pub returns : goal.returns
returns g c =
    let f = c.args.self.now in
    after_part (g.W.Out.state c.args.out.now) (g.W.Out.state c.put_pieces.new.out) (g.W.Out.state c.put_place.new.out)
    (decimal (number f.code) ++ (codes " " ++ (word f.code ++ codes " "))) (place f) _ _
    (fields_line (decimal (number f.code)) (word f.code) (field f.path) (alg_field f.alg) (line_field f.line)
    (field f.detail))
    (rw (c.format.ensures.text, c.number.ensures, c.word.ensures) at c.in_ok-put_pieces.ensures) c.put_place.ensures
