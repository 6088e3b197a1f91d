use Rattle.bag_sources.proofs.Common.{IsSome, sym, subst, NoFaultBefore}
use Rattle.bag_sources.proofs.Filling.{taken_first}
use Rattle.bag_sources.proofs.sequence.ThenSource.advance.Goals as goal

pub returns-then-self-clause-rest : goal.returns-then-self-clause-rest
returns-then-self-clause-rest g c = rw c.if-self.true (λ bag h.
    let first = c.args.self.now.first in
    let others = g.B.Source.remaining bag c.args.self.now.second in
    let done = c.advance.ensures.rest bag h.0.0 in
    let some : IsSome (g.A.Source.found first) = rw c.if-self.true at c.requires in
    let two =
    taken_first (g.A.Source.found first) (g.A.Source.remaining bag first) others
    (g.A.Source.remaining bag c.advance.new.self) some
    (λ f e. g.met.A.Source.is_first bag first f h.0.0 e) done.1 h.0.1 in (
      ((done.0, two.0, (λ ordered. subst (NoFaultBefore others) (sym c.advance.ensures.todo) (h.0.2 ordered))), h.1),
      two.1,
    ))
