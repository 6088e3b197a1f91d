use Rattle.bag_walk.proofs.Common.{option_copied, arith, refl, nothing_then, reads_none}
use Rattle.bag_walk.proofs.PartRuns.{none_written, part_opens, part_reads, part_stopped, part_unlooked}
use Rattle.bag_walk.proofs.PartRuns.{part_written, stop_of_part}
use Rattle.bag_walk.proofs.Running.{stop_of_reading}
use Rattle.bag_tree.proofs.Writing.{Appends-nil}
use Rattle.bag_walk.proofs.part_run.lines_of_part.Goals as goal

pub returns-in-Ok-start_part-clause-opens : goal.returns-in-Ok-start_part-clause-opens
returns-in-Ok-start_part-clause-opens g c =
    let begun = c.in-Ok-start_part.ensures in
    let then = c.segment_of_walk-tree in
    let started = rw (c.in-Ok.ensures, c.as_ref.ensures.value) at begun.started.started in
    part_opens (g.T.Tree.state then.result.0) c.args.request.now started begun.keeps begun.opens then.ensures.opens.1
    then.result.1 then.ensures.none_early

pub returns-in-Ok-start_part-clause-stopped : goal.returns-in-Ok-start_part-clause-stopped
returns-in-Ok-start_part-clause-stopped g c =
    let begun = c.in-Ok-start_part.ensures in
    let then = c.segment_of_walk-tree in
    let started = rw (c.in-Ok.ensures, c.as_ref.ensures.value) at begun.started.started in
    part_stopped (g.T.Tree.state then.result.0) c.args.request.now started begun.keeps begun.opens then.ensures.opens.1
    then.result.1 then.ensures.none_early begun.started.opened then.result.1.end then.result.1.written
    then.ensures.stop then.ensures.waits

pub returns-in-Ok-start_part-clause-unlooked : goal.returns-in-Ok-start_part-clause-unlooked
returns-in-Ok-start_part-clause-unlooked g c =
    let begun = c.in-Ok-start_part.ensures in
    let then = c.segment_of_walk-tree in
    let started = rw (c.in-Ok.ensures, c.as_ref.ensures.value) at begun.started.started in
    part_unlooked (g.T.Tree.state then.result.0) c.args.request.now started begun.keeps begun.opens
    then.ensures.opens.1 then.result.1 then.ensures.none_early
    (omega (arith, c.limit_of-limit.ensures, c.if-limit-eq0.false))
    (λ bag is sees. (rw c.limit_of-limit.ensures at (then.ensures.seen bag is sees)).ends)

pub returns-in-Ok-start_part-clause-plain : goal.returns-in-Ok-start_part-clause-plain
returns-in-Ok-start_part-clause-plain g c = λ read some. c.in-Ok-start_part.ensures.started.plain

pub returns-in-Ok-start_part-clause-no_failure : goal.returns-in-Ok-start_part-clause-no_failure
returns-in-Ok-start_part-clause-no_failure g c = λ read.
    let state = g.T.Tree.state in
    let then = c.segment_of_walk-tree in
    nothing_then (state c.args.tree) (state c.in-Ok-start_part.walk.tree) (state then.result.0)
    c.in-Ok-start_part.ensures.started.no_failure (then.ensures.no_failure read)

pub returns-in-Ok-start_part-clause-stop : goal.returns-in-Ok-start_part-clause-stop
returns-in-Ok-start_part-clause-stop g c =
    let begun = c.in-Ok-start_part.ensures in
    let then = c.segment_of_walk-tree in
    stop_of_part (g.T.Tree.state then.result.0) begun.started.started begun.keeps begun.started.no_failure
    then.result.1.end then.ensures.stop

pub returns-in-Ok-start_part-clause-listed : goal.returns-in-Ok-start_part-clause-listed
returns-in-Ok-start_part-clause-listed g c = λ end. c.in-Ok-start_part.ensures.listed

pub returns-in-Ok-start_part-clause-unseen : goal.returns-in-Ok-start_part-clause-unseen
returns-in-Ok-start_part-clause-unseen g c = rw c.limit_of-limit.ensures at c.segment_of_walk-tree.ensures.unseen

pub returns-in-Ok-start_part-clause-of_one_bag : goal.returns-in-Ok-start_part-clause-of_one_bag
returns-in-Ok-start_part-clause-of_one_bag g c =
    let begun = c.in-Ok-start_part.ensures in
    let then = c.segment_of_walk-tree in
    let started = rw (c.in-Ok.ensures, c.as_ref.ensures.value) at begun.started.started in
    part_written (g.T.Tree.state then.result.0) c.args.request.now started begun.keeps _ _ then.result.1
    (rw c.limit_of-limit.ensures at then.ensures.seen)

pub returns-in-Err-clause-of_one_bag : goal.returns-in-Err-clause-of_one_bag
returns-in-Err-clause-of_one_bag g c =
    rw c.not_begun-in-Err.ensures
    (none_written (g.T.Tree.state c.args.tree) (option_copied c.args.profile) c.args.request.now c.args.part
    (g.W.Out.state c.args.out.now) _ (g.met.T.Tree.is_bag c.args.tree)
    (λ faults. record {
      ends = (omega (arith, c.limit_of-limit.ensures, c.if-limit-eq0.false), omega arith);
      wrote = Appends-nil (g.W.Out.state c.args.out.now).taken;
    }))

pub returns-in_default-clause-of_one_bag : goal.returns-in_default-clause-of_one_bag
returns-in_default-clause-of_one_bag g c =
    rw c.not_begun-in_default.ensures
    (none_written (g.T.Tree.state c.args.tree) (option_copied c.args.profile) c.args.request.now c.args.part
    (g.W.Out.state c.args.out.now) _ (g.met.T.Tree.is_bag c.args.tree)
    (λ faults. record {
      ends = (omega (arith, c.limit_of-limit.ensures, c.if-limit-eq0.false), omega arith);
      wrote = Appends-nil (g.W.Out.state c.args.out.now).taken;
    }))

pub returns-then-limit-eq0-clause-of_one_bag : goal.returns-then-limit-eq0-clause-of_one_bag
returns-then-limit-eq0-clause-of_one_bag g c =
    rw c.not_begun.ensures
    (none_written (g.T.Tree.state c.args.tree) (option_copied c.args.profile) c.args.request.now c.args.part
    (g.W.Out.state c.args.out.now) _ (g.met.T.Tree.is_bag c.args.tree)
    (λ faults. record {
      ends = (omega (arith, c.limit_of-limit.ensures, c.if-limit-eq0.true), omega arith);
      wrote = Appends-nil (g.W.Out.state c.args.out.now).taken;
    }))

pub returns-in-Err-clause-opens : goal.returns-in-Err-clause-opens
returns-in-Err-clause-opens g c =
    part_reads (option_copied c.args.profile) c.args.request.now c.args.part _ _ _ c.in-Err.ensures.opens

pub returns-in-Err-clause-stop : goal.returns-in-Err-clause-stop
returns-in-Err-clause-stop g c =
    let state = g.T.Tree.state in
    rw c.not_begun-in-Err.ensures
    (stop_of_reading c.args.request.now.options (state c.args.tree) (state c.in-Err.tree) c.in-Err.stop
    c.in-Err.ensures.refused.stop)

pub returns-in_default-clause-opens : goal.returns-in_default-clause-opens
returns-in_default-clause-opens g c =
    let state = g.T.Tree.state c.args.tree in
    part_reads (option_copied c.args.profile) c.args.request.now c.args.part _ state state
    (reads_none c.args.request.now.options state state refl)

pub returns-in_default-clause-unlooked : goal.returns-in_default-clause-unlooked
returns-in_default-clause-unlooked g c = λ honest files are early list enough.
    let state = g.T.Tree.state c.args.tree in reads_none c.args.request.now.options state state refl

pub returns-then-limit-eq0-clause-opens : goal.returns-then-limit-eq0-clause-opens
returns-then-limit-eq0-clause-opens g c =
    let state = g.T.Tree.state c.args.tree in
    part_reads (option_copied c.args.profile) c.args.request.now c.args.part _ state state
    (reads_none c.args.request.now.options state state refl)

pub returns-then-limit-eq0-clause-unlooked : goal.returns-then-limit-eq0-clause-unlooked
returns-then-limit-eq0-clause-unlooked g c = λ honest files are early list enough.
    let state = g.T.Tree.state c.args.tree in reads_none c.args.request.now.options state state refl
