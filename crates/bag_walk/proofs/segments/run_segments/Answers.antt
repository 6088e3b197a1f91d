use Rattle.bag_walk.proofs.Common.{ℕ, ◌+◌, ◌∙◌, drop, ap, sym, arith, refl, option_copied, string_bytes, drop_all}
use Rattle.bag_walk.proofs.Common.{drop_more, sum_by-take-le, sum_by_more, keeps_itself, keeps_on, Progress, outcome_at}
use Rattle.bag_walk.proofs.SegmentRuns.{chain_ends, chain_goes_on, written_on}
use Rattle.bag_walk.proofs.segments.run_segments.Goals as goal

pub returns-then-last-clause-segments : goal.returns-then-last-clause-segments
returns-then-last-clause-segments g c =
    let state = g.T.Tree.state in
    let has = c.loop-limit.invariant in
    let step = c.write_segment-left in
    let i = c.loop-limit.limit-index in
    let n = c.loop-limit.written + step.result.1.written in
    let last : Progress =
    record {
      tree = state step.result.0;
      out = g.W.Out.state step.new.out;
      count = n;
      outcome = outcome_at n step.result.1.end;
    } in
    rw c.outcome-outcome.ensures (
      n,
      has.follows last (rw (drop_more c.args.limits.now i 0 c.loop-limit-test.true)
          (chain_ends (option_copied c.args.profile) c.args.options has.keeps c.loop-limit.written
          (string_bytes c.loop-limit.lines.last) has.written_to step.result.1 step.ensures.segment
          (state step.result.0) c.loop-limit.outcome step.ensures.keeps step.ensures.no_failure
          (λ none. ap state (step.ensures.untouched none)) step.ensures.stop step.ensures.unseen step.ensures.opens
          (drop (i + 1) c.args.limits.now) (sym c.is_last-last.ensures ∙ c.if-last.true))),
    )

pub loop-limit-preserved : goal.loop-limit-preserved
loop-limit-preserved g c =
    let state = g.T.Tree.state in
    let has = c.loop-limit.invariant in
    let step = c.write_segment-left in
    let i = c.loop-limit.limit-index in
    let more = sum_by_more (λ (x : ℕ). x) c.args.limits.now i 0 c.loop-limit-test.true in
    record {
      keeps = keeps_on (state c.args.tree) (state c.loop-limit.tree) (state step.result.0) has.keeps step.ensures.keeps;
      bounded = omega (arith, step.ensures.bounded, has.bounded, more);
      untouched = λ none.
          step.ensures.untouched (omega (arith, none, more)) ∙ has.untouched (omega (arith, none, more));
      written_to =
          written_on (option_copied c.args.profile) c.args.options has.keeps c.loop-limit.written
          (string_bytes c.loop-limit.lines.last) has.written_to
          step.result.1 step.ensures.segment;
      follows = rw c.outcome-outcome.ensures
          (λ last others. has.follows last (rw (drop_more c.args.limits.now i 0 c.loop-limit-test.true)
          (chain_goes_on (option_copied c.args.profile) c.args.options has.keeps c.loop-limit.written
          (string_bytes c.loop-limit.lines.last) has.written_to step.result.1 step.ensures.segment
          (state step.result.0) c.loop-limit.outcome step.ensures.keeps step.ensures.no_failure
          (λ none. ap state (step.ensures.untouched none)) step.ensures.stop step.ensures.unseen step.ensures.opens
          (drop (i + 1) c.args.limits.now) last (sym c.is_last-last.ensures ∙ c.if-last.false) others)));
    }

pub returns-clause-segments : goal.returns-clause-segments
returns-clause-segments g c =
    let last : Progress =
    record {
      tree = g.T.Tree.state c.loop-limit.tree;
      out = g.W.Out.state c.loop-limit.out;
      count = c.loop-limit.written;
      outcome = c.loop-limit.outcome;
    } in (
      c.loop-limit.written,
      c.loop-limit.invariant.follows last
          (rw (drop_all c.loop-limit.limit-index c.args.limits.now c.loop-limit-test.false) refl),
    )

pub loop-limit-init : goal.loop-limit-init
loop-limit-init g c =
    record {
      keeps = keeps_itself (g.T.Tree.state c.args.tree);
      bounded = omega arith;
      untouched = λ none. refl;
      written_to = λ honest report is. (omega arith, c.new-lines.ensures);
      follows = λ last rest. rest;
    }

pub overflow_add-written : goal.overflow_add-written
overflow_add-written g c =
    let i = c.loop-limit.limit-index in
    let limits = c.args.limits.now in
    omega (
      arith,
      c.requires,
      c.write_segment-left.ensures.bounded,
      c.loop-limit.invariant.bounded,
      sum_by_more (λ (x : ℕ). x) limits i 0 c.loop-limit-test.true,
      sum_by-take-le (λ (x : ℕ). x) limits (i + 1),
    )
