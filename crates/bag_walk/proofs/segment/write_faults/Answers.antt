use Rattle.bag_walk.proofs.Common.{◌≡◌, ◌++◌, ◌∙◌, ◌+◌, ◌-◌, ◌∷◌, [], inl, inr, refl, sym, ap, arith, append_assoc}
use Rattle.bag_walk.proofs.Common.{length-append, option_copied, nothing_asked, nothing_then, keeps_itself, keeps_on}
use Rattle.bag_walk.proofs.Common.{rest_of, shown_by, to_give}
use Rattle.bag_tree.proofs.Writing.{Appends-nil}
use Rattle.bag_sources.proofs.Filling.{again_on, once, opens_on}
use Rattle.bag_walk.proofs.RunLines.{last_given}
use Rattle.bag_walk.proofs.SegmentLines.{behind_now, ends_at_end, ends_full, ends_unread, ends_unwritten, last_is, left_at}
use Rattle.bag_walk.proofs.SegmentLines.{left_at_end, left_is, none_opened, one_line_more, opens_nothing, seen_now}
use Rattle.bag_walk.proofs.SegmentLines.{stops_now, waits_now}
use Rattle.bag_walk.proofs.segment.write_faults.Goals as goal

pub given-init : goal.given-init
given-init g c =
    let state = g.T.Tree.state c.args.walk.now.tree in
    record {
      keeps = keeps_itself state;
      no_failure = nothing_asked state;
      within = omega arith;
      given = [];
      count_is = refl;
      written_so_far = Appends-nil (g.W.Out.state c.args.out.now).taken;
      last = λ rest. refl;
      opens = opens_nothing state (g.S.Source.todo c.args.walk.now.source);
      none_early = λ bag h sees. none_opened state _;
      seen = λ bag h sees. (h, refl);
    }

pub given-preserved : goal.given-preserved
given-preserved g c =
    let state = g.T.Tree.state in
    let out = g.W.Out.state in
    let has = c.given.invariant in
    let old = state c.args.walk.now.tree in
    let mid = state c.given.walk.tree in
    let new = c.step.new.self in
    let f = c.in-Some.fault.now in
    let one_back : c.given.written + 1 - 1 ≡ c.given.written = omega arith in
    let line = rw (c.as_bytes.ensures.value, c.in-Ok-fill.ensures.next) at c.in_default-put_all.ensures in
    record {
      keeps = keeps_on old mid (state new.tree) has.keeps c.step.ensures.keeps;
      no_failure = nothing_then old mid (state new.tree) has.no_failure c.in-Ok.ensures.no_failure;
      within = omega (arith, c.given-test.true);
      given = has.given ++ f ∷ [];
      count_is = length-append has.given (f ∷ []) ∙ ap (λ n. n + 1) has.count_is;
      written_so_far =
          one_line_more has.given f (out c.args.out.now) (out c.given.out) (out c.put_all.new.out) has.written_so_far
          line;
      last =
          λ rest. last_given has.given rest f c.given.written _ _ has.count_is
          (c.fill.ensures.fault, c.turn.ensures ∙ c.in-Ok-fill.ensures.next);
      opens = opens_on has.opens c.in-Ok.ensures.opens;
      none_early = rw one_back (behind_now has (once c.in-Ok.ensures.opens) c.step.ensures.none_early);
      seen = λ bag h sees.
          let next = seen_now has _ c.in-Ok.ensures.next bag h sees in
          let rest =
          rest_of (to_give (shown_by c.given.walk.is_shown (g.S.Source.found c.given.walk.source))
          (g.S.Source.remaining bag c.given.walk.source)) in (
            next.0,
            left_at has bag h sees (shown_by new.is_shown (g.S.Source.found new.source)) next.1.0 f
                (sym c.shown.ensures ∙ ap option_copied c.in-Some.is)
                ∙ sym (append_assoc has.given (f ∷ []) rest) ∙ ap (λ l. (has.given ++ f ∷ []) ++ l) (sym next.1.1),
          );
    }

pub returns-in-Err : goal.returns-in-Err
returns-in-Err g c =
    let has = c.given.invariant in
    let new = c.step.new.self in
    let stop = c.in-Err.ensures in
    record {
      keeps = keeps_on _ _ _ has.keeps c.step.ensures.keeps;
      no_failure = λ read. absurd read;
      opens = (_, again_on has.opens stop.again);
      none_early = behind_now has stop.again c.step.ensures.none_early;
      waits = waits_now has c.in-Err.stop.path stop.waits;
      seen = λ bag h sees. rw (left_is has bag h sees) (ends_unread has _ c.in-Err.stop c.given-test.true);
      last_line = λ bag h sees. last_is has bag h sees _ refl;
      unseen = (_, ends_unread has [] c.in-Err.stop c.given-test.true);
      stop =
          stops_now has (g.T.Tree.state new.tree) (g.S.Source.todo new.source) c.in-Err.stop stop.reached
          stop.anyway.out_of_memory stop.stop;
    }

pub returns-in_default : goal.returns-in_default
returns-in_default g c =
    let has = c.given.invariant in
    let new = c.step.new.self in
    record {
      keeps = keeps_on _ _ _ has.keeps c.step.ensures.keeps;
      no_failure = λ read. nothing_then _ _ _ has.no_failure c.in-Ok.ensures.no_failure;
      opens = (_, again_on has.opens (once c.in-Ok.ensures.opens));
      none_early = behind_now has (once c.in-Ok.ensures.opens) c.step.ensures.none_early;
      waits = tt;
      seen = λ bag h sees.
          let next = seen_now has _ c.in-Ok.ensures.next bag h sees in
          rw (left_at_end has bag h sees (shown_by new.is_shown (g.S.Source.found new.source)) next.1.0
          (sym c.shown.ensures ∙ ap option_copied c.in_default.is))
          (ends_at_end has c.given-test.true);
      unseen = (_, ends_at_end has c.given-test.true);
      last_line = λ bag h sees. last_is has bag h sees _ refl;
      stop = tt;
    }

pub returns-in_default-fill : goal.returns-in_default-fill
returns-in_default-fill g c =
    let has = c.given.invariant in
    record {
      keeps = keeps_on _ _ _ has.keeps c.step.ensures.keeps;
      no_failure = λ read. absurd read;
      opens = (_, again_on has.opens (once c.in-Ok.ensures.opens));
      none_early = behind_now has (once c.in-Ok.ensures.opens) c.step.ensures.none_early;
      waits = λ bag h sees some. absurd (some c.out_of_memory.ensures.1);
      seen = λ bag h sees. rw (left_is has bag h sees) (ends_unread has _ c.out_of_memory.result c.given-test.true);
      last_line = λ bag h sees. last_is has bag h sees _ c.fill.ensures.last;
      unseen = (_, ends_unread has [] c.out_of_memory.result c.given-test.true);
      stop = inl (c.out_of_memory.ensures, inr (nothing_then _ _ _ has.no_failure c.in-Ok.ensures.no_failure));
    }

pub returns-in-Err-put_all : goal.returns-in-Err-put_all
returns-in-Err-put_all g c =
    let has = c.given.invariant in
    let new = c.step.new.self in
    let f = c.in-Some.fault.now in
    let out = g.W.Out.state c.put_all.new.out in
    let refused = rw (c.as_bytes.ensures.value, c.in-Ok-fill.ensures.next) at c.in-Err-put_all.ensures in
    record {
      keeps = keeps_on _ _ _ has.keeps c.step.ensures.keeps;
      no_failure = λ read. nothing_then _ _ _ has.no_failure c.in-Ok.ensures.no_failure;
      opens = (_, again_on has.opens (once c.in-Ok.ensures.opens));
      none_early = behind_now has (once c.in-Ok.ensures.opens) c.step.ensures.none_early;
      waits = tt;
      seen = λ bag h sees.
          let next = seen_now has _ c.in-Ok.ensures.next bag h sees in
          rw (left_at has bag h sees (shown_by new.is_shown (g.S.Source.found new.source)) next.1.0 f
          (sym c.shown.ensures ∙ ap option_copied c.in-Some.is))
          (ends_unwritten has f _ out c.given-test.true refused.1 refused.0);
      last_line = λ bag h sees. last_is has bag h sees _ c.fill.ensures.last;
      unseen = (has.given ++ f ∷ [], ends_unwritten has f [] out c.given-test.true refused.1 refused.0);
      stop = tt;
    }

pub returns : goal.returns
returns g c =
    let has = c.given.invariant in
    record {
      keeps = has.keeps;
      no_failure = λ read. has.no_failure;
      opens = (_, once has.opens);
      none_early = has.none_early;
      waits = tt;
      seen = λ bag h sees. rw (left_is has bag h sees) (ends_full has _ c.given-test.false);
      unseen = (_, ends_full has [] c.given-test.false);
      last_line = λ bag h sees. last_is has bag h sees _ refl;
      stop = tt;
    }
