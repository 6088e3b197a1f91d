use Rattle.bag_walk.proofs.Common.{StopsAt}
use Rattle.bag_walk.proofs.Closed.{closes_at_end, closes_full, closes_unread, closes_unwritten, end_has_no_stop}
use Rattle.bag_walk.proofs.Closed.{told_by}
use Rattle.bag_walk.proofs.segment.close_segment.Goals as goal

pub returns-in-Full-clause-closes : goal.returns-in-Full-clause-closes
returns-in-Full-clause-closes g c = λ faults began s.
    closes_full c.args.request.now faults began (g.W.Out.state c.args.out.now) c.args.segment
    (g.W.Out.state c.close.new.out) _ c.in-Full.is c.close.ensures s

pub returns-in-AtEnd-clause-closes : goal.returns-in-AtEnd-clause-closes
returns-in-AtEnd-clause-closes g c = λ faults began s.
    closes_at_end c.args.request.now faults began (g.W.Out.state c.args.out.now) c.args.segment
    (g.W.Out.state c.close-in-AtEnd.new.out) _ c.in-AtEnd.is
    (rw (c.end_of_report.ensures, c.as_ref.ensures.value) at c.close-in-AtEnd.ensures) s

pub returns-in-Unread-clause-closes : goal.returns-in-Unread-clause-closes
returns-in-Unread-clause-closes g c = λ faults began s.
    closes_unread c.args.request.now faults began (g.W.Out.state c.args.out.now) c.args.segment c.in-Unread.stop
    (g.W.Out.state c.close-in-Unread.new.out) _ c.in-Unread.is c.close-in-Unread.ensures s

pub returns-in-Unwritten-clause-closes : goal.returns-in-Unwritten-clause-closes
returns-in-Unwritten-clause-closes g c = λ faults began s.
    closes_unwritten c.args.request.now faults began (g.W.Out.state c.args.out.now) c.args.segment c.in-Unwritten.is s

pub returns-in-Full-clause-stop : goal.returns-in-Full-clause-stop
returns-in-Full-clause-stop g c = told_by (StopsAt c.args.segment) c.args.request.now _ _ (g.W.Out.state c.args.out.now)
    (g.W.Out.state c.close.new.out) c.close.ensures tt

pub returns-in-AtEnd-clause-stop : goal.returns-in-AtEnd-clause-stop
returns-in-AtEnd-clause-stop g c =
    told_by (StopsAt c.args.segment) c.args.request.now _ _ (g.W.Out.state c.args.out.now)
    (g.W.Out.state c.close-in-AtEnd.new.out) c.close-in-AtEnd.ensures
    (rw (c.end_of_report.ensures, c.as_ref.ensures.value)
    (end_has_no_stop (StopsAt c.args.segment) c.args.request.now.after c.args.segment.written))

pub returns-in-Unread-clause-stop : goal.returns-in-Unread-clause-stop
returns-in-Unread-clause-stop g c = told_by (StopsAt c.args.segment) c.args.request.now _ _
    (g.W.Out.state c.args.out.now) (g.W.Out.state c.close-in-Unread.new.out) c.close-in-Unread.ensures c.in-Unread.is
