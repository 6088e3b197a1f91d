use Rattle.bag_walk.proofs.Common.{◌-◌, string_bytes, shown_by, to_give}
use Rattle.bag_walk.proofs.SegmentLines.{HasWritten}
use Rattle.bag_walk.proofs.segment.write_faults.Given as goal

abbrev pub invariant-given : goal.invariant-given
invariant-given g l =
    HasWritten l.limit l.written
    (λ bag. g.S.Source.is_of bag l.initial.walk.source) (λ bag. g.S.Source.is_of bag l.walk.source)
    (λ bag. to_give (shown_by l.initial.walk.is_shown (g.S.Source.found l.initial.walk.source))
    (g.S.Source.remaining bag l.initial.walk.source))
    (λ bag. to_give (shown_by l.walk.is_shown (g.S.Source.found l.walk.source))
    (g.S.Source.remaining bag l.walk.source))
    (g.S.Source.todo l.initial.walk.source) (g.S.Source.todo l.walk.source)
    (g.T.Tree.state l.initial.walk.tree) (g.T.Tree.state l.walk.tree) (g.W.Out.state l.initial.out)
    (g.W.Out.state l.out) (string_bytes l.initial.lines.last) (string_bytes l.lines.last)

abbrev pub decreases-given : goal.decreases-given
decreases-given g l = l.limit - l.written
