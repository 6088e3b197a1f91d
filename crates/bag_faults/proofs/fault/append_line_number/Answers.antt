use Rattle.std.proofs.lemmas.Result.{on_ok_weaker, on_err_weaker}
use Rattle.bag_faults.proofs.Lines.{line_written}
use Rattle.bag_faults.proofs.Pieces.{begins_before, one_piece, pushed_behind, refused_behind}
use Rattle.bag_faults.proofs.fault.append_line_number.Goals as goal

pub returns-then-line-eq0-clause-ok : goal.returns-then-line-eq0-clause-ok
returns-then-line-eq0-clause-ok c = rw c.if-line-eq0.true
    (pushed_behind _ _ _ _ _ _ c.in_ok-push_str.ensures.bytes c.push_str-then-line-eq0.ensures.bytes)

pub returns-then-line-eq0-clause-err : goal.returns-then-line-eq0-clause-err
returns-then-line-eq0-clause-err c = refused_behind _ _ _ _ _ _ c.in_ok-push_str.ensures.bytes
    c.push_str-then-line-eq0.ensures.bytes

pub returns-else-line-eq0-clause-ok : goal.returns-else-line-eq0-clause-ok
returns-else-line-eq0-clause-ok c =
    rw (line_written c.args.line c.if-line-eq0.false)
    (on_ok_weaker c.append_number.result (one_piece _ _ _ _ _ c.in_ok-push_str.ensures.bytes)
    c.append_number.ensures.ok)

pub returns-else-line-eq0-clause-err : goal.returns-else-line-eq0-clause-err
returns-else-line-eq0-clause-err c = on_err_weaker c.append_number.result
    (begins_before _ _ _ _ c.in_ok-push_str.ensures.bytes) c.append_number.ensures.err
