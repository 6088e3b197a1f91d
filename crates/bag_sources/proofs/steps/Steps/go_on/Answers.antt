use Rattle.bag_sources.proofs.Common.{List, Bag, Fault, shown_by, to_give}
use Rattle.bag_sources.proofs.Positions.{gives_on, wait_on}
use Rattle.bag_sources.proofs.steps.Steps.go_on.Goals as goal

pub returns : goal.returns
returns g c =
    let step = c.step.ensures in
    let todo = g.S.Source.todo in
    let state = g.T.Tree.state in
    let old = c.args.self.now in
    let new = c.step.new.self in
    let result = c.step.result in
    let before : Bag → List Fault = λ bag.
    to_give (shown_by old.is_shown (g.S.Source.found old.source)) (g.S.Source.remaining bag old.source) in
    let after : Bag → List Fault = λ bag.
    to_give (shown_by new.is_shown (g.S.Source.found new.source)) (g.S.Source.remaining bag new.source) in
    record {
      keeps = step.keeps;
      no_failure = step.no_failure;
      over = λ bag h. (step.next bag h.0 h.1).0;
      position = λ check position h stands.
          gives_on check position result (before check.bag) (after check.bag)
          (shown_by new.is_shown (g.S.Source.found new.source))
          (step.next check.bag h.0 h.1).1 stands;
      opens = step.opens;
      again = step.again;
      ended = step.ended;
      waits = λ bag files h.
          wait_on files (todo old.source) (todo new.source) (before bag)
          (state old.tree) (state new.tree) result
          (step.none_early bag h.0 h.1) step.opens step.again;
      stop = step.stop;
      anyway = step.anyway;
    }
