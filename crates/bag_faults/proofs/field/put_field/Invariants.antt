use Rattle.bag_faults.proofs.Common.{field, IsTaken}
use Rattle.percent_encoding.specs.Iter.{encoded_text}
use Rattle.bag_faults.proofs.field.put_field.Given as goal

abbrev pub invariant-loop-piece : goal.invariant-loop-piece
invariant-loop-piece g l = IsTaken (g.W.Out.state l.fn.out).taken (g.W.Out.state l.out).taken (field l.text)
    (encoded_text l.piece-iterator)
