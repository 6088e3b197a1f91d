use Rattle.bag_walk.proofs.Common.{◌≡◌, ◌+◌, [], inr, refl, arith, nothing_asked, nothing_then, reads_none}
use Rattle.bag_walk.proofs.Running.{memory_may_stop, stop_of_reading, within_limit}
use Rattle.bag_walk.proofs.SegmentOpenings.{opens_no_payload}
use Rattle.bag_walk.proofs.PartRuns.{stop_of_part}
use Rattle.bag_walk.proofs.SegmentStart.{goes_on, opens_behind}
use Rattle.bag_tree.proofs.Writing.{Appends-nil}
use Rattle.bag_walk.proofs.segments.write_segment.Goals as goal

pub returns-in-Ok-start_part-clause-stop : goal.returns-in-Ok-start_part-clause-stop
returns-in-Ok-start_part-clause-stop g c =
    let begun = c.in-Ok-start_part.ensures in
    let then = c.segment_of_walk in
    stop_of_part (g.T.Tree.state then.result.0) begun.started.started begun.keeps begun.started.no_failure
    then.result.1.end then.ensures.stop

pub returns-in-Ok-start_part-clause-segment : goal.returns-in-Ok-start_part-clause-segment
returns-in-Ok-start_part-clause-segment g c = λ honest report is n within was.
    let begun = c.in-Ok-start_part.ensures in
    let then = c.segment_of_walk in
    let started = rw c.only_part.ensures at begun.started.started in
    goes_on (g.T.Tree.state then.result.0) started begun.keeps honest report is n within
    (c.in-Ok.ensures _ was) c.args.limit _ _ _ _ then.result.1 was
    then.ensures.seen then.ensures.last_line

pub returns-in-Ok-start_part-clause-opens : goal.returns-in-Ok-start_part-clause-opens
returns-in-Ok-start_part-clause-opens g c = λ honest report is n within was listed are.
    let begun = c.in-Ok-start_part.ensures in
    let then = c.segment_of_walk in
    let started = rw c.only_part.ensures at begun.started.started in
    opens_behind (g.T.Tree.state then.result.0) started begun.keeps honest report is n within
    (c.in-Ok.ensures _ was) begun.opens _
    then.ensures.opens.1 then.result.1 then.ensures.none_early listed are

pub returns-in-Ok-start_part-clause-bounded : goal.returns-in-Ok-start_part-clause-bounded
returns-in-Ok-start_part-clause-bounded g c =
    let some = c.segment_of_walk.ensures.unseen in within_limit some.0 c.args.limit _ _ some.1.ends

pub returns-in-Err-clause-stop : goal.returns-in-Err-clause-stop
returns-in-Err-clause-stop g c = let state = g.T.Tree.state
    in stop_of_reading c.args.options (state c.args.tree) (state c.in-Err.tree) c.in-Err.stop
    c.in-Err.ensures.refused.stop

pub returns-in-Err-clause-opens : goal.returns-in-Err-clause-opens
returns-in-Err-clause-opens g c = λ honest report is n within was listed are.
    opens_no_payload c.args.options c.in-Err.ensures.opens

pub returns-in_default-clause-opens : goal.returns-in_default-clause-opens
returns-in_default-clause-opens g c = λ honest report is n within was listed are.
    let state =
    g.T.Tree.state c.args.tree in opens_no_payload c.args.options (reads_none c.args.options state state refl)

pub returns-then-limit-eq0-clause-opens : goal.returns-then-limit-eq0-clause-opens
returns-then-limit-eq0-clause-opens g c = λ honest report is n within was listed are.
    let state =
    g.T.Tree.state c.args.tree in opens_no_payload c.args.options (reads_none c.args.options state state refl)

pub returns-in_default-clause-stop : goal.returns-in_default-clause-stop
returns-in_default-clause-stop g c =
    let state =
    g.T.Tree.state c.args.tree
    in memory_may_stop c.args.options state state c.out_of_memory.result c.out_of_memory.ensures
    (inr (nothing_asked state))

pub returns-in-Err-clause-segment : goal.returns-in-Err-clause-segment
returns-in-Err-clause-segment g c = λ honest report is n within was.
    let same : n ≡ n + 0 = omega arith in
    record {
      writes =
          record {
            ends = (omega (arith, c.if-limit-eq0.false), omega arith);
            wrote = Appends-nil (g.W.Out.state c.args.out.now).taken;
          };
      last = rw (← same) was;
    }

pub returns-then-limit-eq0-clause-no_failure : goal.returns-then-limit-eq0-clause-no_failure
returns-then-limit-eq0-clause-no_failure g c = λ read. nothing_asked (g.T.Tree.state c.args.tree)

pub returns-in-Ok-start_part-clause-no_failure : goal.returns-in-Ok-start_part-clause-no_failure
returns-in-Ok-start_part-clause-no_failure g c = λ read.
    let state = g.T.Tree.state in
    let then = c.segment_of_walk in
    nothing_then (state c.args.tree) (state c.in-Ok-start_part.walk.tree) (state then.result.0)
    c.in-Ok-start_part.ensures.started.no_failure (then.ensures.no_failure read)

pub returns-then-limit-eq0-clause-unseen : goal.returns-then-limit-eq0-clause-unseen
returns-then-limit-eq0-clause-unseen g c = (
  [],
  record {
    ends = (omega (arith, c.if-limit-eq0.true), omega arith);
    wrote = Appends-nil (g.W.Out.state c.args.out.now).taken;
  },
)

pub returns-in_default-clause-unseen : goal.returns-in_default-clause-unseen
returns-in_default-clause-unseen g c = (
  [],
  record {
    ends = (omega (arith, c.if-limit-eq0.false), omega arith);
    wrote = Appends-nil (g.W.Out.state c.args.out.now).taken;
  },
)

pub returns-in-Err-clause-unseen : goal.returns-in-Err-clause-unseen
returns-in-Err-clause-unseen g c = (
  [],
  record {
    ends = (omega (arith, c.if-limit-eq0.false), omega arith);
    wrote = Appends-nil (g.W.Out.state c.args.out.now).taken;
  },
)
