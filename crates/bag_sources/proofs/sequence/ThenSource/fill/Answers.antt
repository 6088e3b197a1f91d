use Rattle.bag_sources.proofs.Common.{◌≡◌, ◌++◌, ◌∙◌, [], inl, inr, sym, subst, on_ok_weaker, on_err_weaker, IfErr-weaker}
use Rattle.bag_sources.proofs.Common.{Bag, keeps_on, nothing_then, Opens, Sees, none_is, err_from_is_err_and}
use Rattle.bag_sources.proofs.Filling.{again_on, again_within, anyway_front, anyway_later, behind_first, behind_on}
use Rattle.bag_sources.proofs.Filling.{first_front, front_same, none_shown, once, opened_by, opens_front, opens_on}
use Rattle.bag_facts.proofs.StoppingAmong.{refused_front}
use Rattle.bag_sources.proofs.Filling.{reached_on, sees_later, sees_parts, some_shown, stop_front}
use Rattle.bag_sources.proofs.Filling.{stop_later, waits_first}
use Rattle.bag_sources.proofs.sequence.ThenSource.fill.Goals as goal

pub returns-then-not-self-clause-none_early : goal.returns-then-not-self-clause-none_early
returns-then-not-self-clause-none_early g c = rw c.if-not-self.true (λ ordered bag h sees.
    c.fill.ensures.none_early ordered.1 bag h.1 sees)

pub returns-then-not-self-clause-reached : goal.returns-then-not-self-clause-reached
returns-then-not-self-clause-reached g c = rw c.if-not-self.true
    (IfErr-weaker c.fill.result _ _ (λ stop reached ordered. reached ordered.1) c.fill.ensures.reached)

pub returns-then-not-self-clause-waits : goal.returns-then-not-self-clause-waits
returns-then-not-self-clause-waits g c = rw c.if-not-self.true
    (IfErr-weaker c.fill.result _ _ (λ stop waits ordered bag h sees. waits ordered.1 bag h.1 sees)
    c.fill.ensures.waits)

pub returns-in_err-fill-clause-same : goal.returns-in_err-fill-clause-same
returns-in_err-fill-clause-same g c = rw c.if-not-self.false (λ bag h sees.
    let first = c.args.self.now.first in
    let second = c.args.self.now.second in
    let seen =
    (sees_parts (g.T.Tree.state c.args.tree.now) (g.A.Source.todo first) (g.B.Source.todo second) bag sees).0 in
    front_same (g.A.Source.remaining bag first) (g.B.Source.remaining bag second) _ (g.A.Source.todo first)
    (g.A.Source.todo c.fill-2.new.self) _ _ _
    (c.fill-2.ensures.same bag h.0.0 seen) h.0.1 h.0.2 h.1 (λ ordered.
    let again = c.in_err-fill.ensures.again ordered in (again.passed, again.left)))

pub returns-in_err-fill-clause-none_early : goal.returns-in_err-fill-clause-none_early
returns-in_err-fill-clause-none_early g c = rw c.if-not-self.false (λ ordered bag h sees.
    let state = g.T.Tree.state in
    let xs = g.A.Source.todo c.args.self.now.first in
    let seen = (sees_parts (state c.args.tree.now) xs (g.B.Source.todo c.args.self.now.second) bag sees).0 in
    behind_first _ _ (state c.args.tree.now) (state c.fill-2.new.tree) xs (h.0.2 ordered.0)
    (c.in_err-fill.ensures.again ordered.0)
    (c.fill-2.ensures.none_early ordered.0 bag h.0.0 seen))

pub returns-in_err-fill-clause-stop : goal.returns-in_err-fill-clause-stop
returns-in_err-fill-clause-stop g c =
    let p = err_from_is_err_and c.from_residual.result c.from_residual.ensures.1 in
    rw (p.1, p.2, c.if-not-self.false) (λ of.
    stop_front (g.B.Source.todo c.args.self.now.second) (c.in_err-fill.ensures.stop (λ honest. (of honest).0.0)))

pub returns-in_err-fill-clause-anyway : goal.returns-in_err-fill-clause-anyway
returns-in_err-fill-clause-anyway g c =
    let p = err_from_is_err_and c.from_residual.result c.from_residual.ensures.1 in
    rw (p.1, p.2, c.if-not-self.false)
    (anyway_front (g.B.Source.todo c.args.self.now.second) c.in_err-fill.ensures.anyway)

pub returns-in_err-fill-clause-reached : goal.returns-in_err-fill-clause-reached
returns-in_err-fill-clause-reached g c =
    let p = err_from_is_err_and c.from_residual.result c.from_residual.ensures.1 in
    rw (p.1, p.2, c.if-not-self.false) (λ ordered.
    let state = g.T.Tree.state in
    let self = c.args.self.now in
    elim (c.in_err-fill.ensures.reached ordered.0) [
      | inl memory ↦ inl memory
      | inr reached ↦ inr
          (refused_front (state c.args.tree.now) (state c.fill-2.new.tree) c.in_err-fill.field-0.0.path
          (g.A.Source.todo self.first) (g.B.Source.todo self.second) reached)
    ])

pub returns-in_err-fill-clause-waits : goal.returns-in_err-fill-clause-waits
returns-in_err-fill-clause-waits g c =
    let p = err_from_is_err_and c.from_residual.result c.from_residual.ensures.1 in
    rw (p.1, p.2, c.if-not-self.false) (λ ordered bag h sees.
    let state = g.T.Tree.state in
    let xs = g.A.Source.todo c.args.self.now.first in
    let seen = (sees_parts (state c.args.tree.now) xs (g.B.Source.todo c.args.self.now.second) bag sees).0 in
    waits_first _ _ (state c.args.tree.now) (state c.fill-2.new.tree) xs (h.0.2 ordered.0) c.in_err-fill.field-0.0
    (c.in_err-fill.ensures.reached ordered.0)
    (c.in_err-fill.ensures.waits ordered.0 bag h.0.0 seen))

pub returns-then-is_some-clause-same : goal.returns-then-is_some-clause-same
returns-then-is_some-clause-same g c = rw c.if-not-self.false (λ bag h sees.
    let first = c.args.self.now.first in
    let second = c.args.self.now.second in
    let seen =
    (sees_parts (g.T.Tree.state c.args.tree.now) (g.A.Source.todo first) (g.B.Source.todo second) bag sees).0 in
    front_same (g.A.Source.remaining bag first) (g.B.Source.remaining bag second) _ (g.A.Source.todo first)
    (g.A.Source.todo c.fill-2.new.self) _ _ _
    (c.fill-2.ensures.same bag h.0.0 seen) h.0.1 h.0.2 h.1 (λ ordered.
    let opens = c.in_ok-fill.ensures.opens ordered in (opens.opened, opens.left)))

pub returns-then-is_some-clause-first : goal.returns-then-is_some-clause-first
returns-then-is_some-clause-first g c = rw c.if-not-self.false (λ bag h sees.
    let seen =
    (sees_parts (g.T.Tree.state c.args.tree.now) (g.A.Source.todo c.args.self.now.first)
    (g.B.Source.todo c.args.self.now.second) bag sees).0 in
    first_front (g.A.Source.found c.fill-2.new.self) (g.A.Source.remaining bag c.fill-2.new.self)
    (g.B.Source.remaining bag c.args.self.now.second)
    (some_shown c.peek.result c.peek.ensures c.is_some.ensures c.if-is_some.true)
    (c.in_ok-fill.ensures.first bag h.0.0 seen))

pub returns-then-is_some-clause-none_early : goal.returns-then-is_some-clause-none_early
returns-then-is_some-clause-none_early g c = rw c.if-not-self.false (λ ordered bag h sees.
    let state = g.T.Tree.state in
    let xs = g.A.Source.todo c.args.self.now.first in
    let seen = (sees_parts (state c.args.tree.now) xs (g.B.Source.todo c.args.self.now.second) bag sees).0 in
    behind_first _ _ (state c.args.tree.now) (state c.fill-2.new.tree) xs (h.0.2 ordered.0)
    (once (c.in_ok-fill.ensures.opens ordered.0))
    (c.fill-2.ensures.none_early ordered.0 bag h.0.0 seen))

pub returns : goal.returns
returns g c = rw c.if-not-self.false (
    let old = g.T.Tree.state c.args.tree.now in
    let mid = g.T.Tree.state c.fill-2.new.tree in
    let new = g.T.Tree.state c.fill-3.new.tree in
    let first = c.args.self.now.first in
    let second = c.args.self.now.second in
    let xs = g.A.Source.todo first in
    let ys = g.B.Source.todo second in
    let result = c.fill-3.result in
    let keeps = c.fill-2.ensures.keeps in
    let one = c.in_ok-fill.ensures in
    let other = c.fill-3.ensures in
    let none = none_shown c.peek.result c.peek.ensures c.is_some.ensures c.if-is_some.false in
    let opens : g.A.Source.in_order → Opens xs [] old mid = λ ordered.
    subst (λ l. Opens xs l old mid) (one.ended ordered none) (one.opens ordered) in
    let all : g.A.Source.in_order → Opens (xs ++ ys) ys old mid = λ ordered. opens_front (opens ordered) ys in
    let later : (bag : Bag) → Sees old (xs ++ ys) bag → Sees mid ys bag = λ bag sees.
    sees_later ys bag keeps (sees_parts old xs ys bag sees).1 in
    let empty : (bag : Bag) → g.A.Source.is_of bag first → Sees old (xs ++ ys) bag
    → g.A.Source.remaining bag first ≡ [] = λ bag of sees.
    let seen = (sees_parts old xs ys bag sees).0 in
    sym (c.fill-2.ensures.same bag of seen).1
    ∙ none_is (g.A.Source.remaining bag c.fill-2.new.self) (sym (one.first bag of seen) ∙ none) in
    record {
      keeps = keeps_on old mid new keeps other.keeps;
      no_failure =
          on_ok_weaker result (λ no_failure. nothing_then old mid new one.no_failure no_failure) other.no_failure;
      opens = on_ok_weaker result (λ opens ordered. opens_on (all ordered.0) (opens ordered.1)) other.opens;
      again = on_err_weaker result (λ again ordered. again_on (all ordered.0) (again ordered.1)) other.again;
      reached = IfErr-weaker result _ _
          (λ stop reached ordered.
          elim (reached ordered.1)
          [ inl memory ↦ inl memory | inr at ↦ inr (reached_on (all ordered.0) new stop.path at) ])
          other.reached;
      waits =
          IfErr-weaker result _ _
          (λ stop waits ordered bag h sees. rw (empty bag h.0.0 sees) (waits ordered.1 bag h.1 (later bag sees)))
          other.waits;
      ended = on_ok_weaker result (λ ended ordered. ended ordered.1) other.ended;
      same = λ bag h sees.
          let b = other.same bag h.1 (later bag sees) in
          ((tt, b.0), rw (empty bag h.0.0 sees) b.1);
      first = on_ok_weaker result (λ found bag h sees. found bag h.1 (later bag sees)) other.first;
      none_early = λ ordered bag h sees.
          rw (empty bag h.0.0 sees)
          (behind_on (g.B.Source.remaining bag second) (g.B.Source.remaining bag second) (once (all ordered.0))
          (opened_by result (on_ok_weaker result (λ opens. opens ordered.1) other.opens)
          (on_err_weaker result (λ again. again ordered.1) other.again))
          (λ opened e f path c d. h.0.2 ordered.0 f path c (again_within (once (opens ordered.0)) opened e path d))
          (other.none_early ordered.1 bag h.1 (later bag sees)) (λ f c. c));
      stop = IfErr-weaker result _ _
          (λ stop stops of. stop_later keeps one.no_failure
          (stops (λ honest. subst (λ bag. g.B.Source.is_of bag second) (sym keeps.bag)
          (of (sym keeps.honest ∙ honest)).1))) other.stop;
      anyway = IfErr-weaker result _ _ (λ stop anyway. anyway_later keeps one.no_failure anyway) other.anyway;
    })
