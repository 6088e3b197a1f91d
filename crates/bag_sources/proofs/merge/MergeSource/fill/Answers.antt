use Rattle.bag_sources.proofs.Common.{arith, ◌∙◌, sym, subst, nothing_then, awaits_second, least_of, union, first_of_union}
use Rattle.bag_sources.proofs.Common.{err_from_is_err_and}
use Rattle.bag_sources.proofs.Filling.{stop_front, stop_later, anyway_front, anyway_later, once}
use Rattle.bag_sources.proofs.Merging.{nothing_opened, opens_nothing, quiet_again, quiet_stop, sees_each}
use Rattle.bag_sources.proofs.merge.MergeSource.fill.Goals as goal

pub returns-in-Err-clause-again : goal.returns-in-Err-clause-again
returns-in-Err-clause-again g c = λ quiet. grind (arith, once, opens_nothing)

pub returns-in-Err-clause-same : goal.returns-in-Err-clause-same
returns-in-Err-clause-same g c = λ bag h sees.
    let self = c.args.self.now in
    let seen =
    sees_each (awaits_second self.filled) (g.A.Source.todo self.first) (g.B.Source.todo self.second) bag
    c.fill_unless.ensures.keeps sees in
    let a = c.fill_unless.ensures.same bag h.0 seen.0 in
    ((a.0, h.1, tt, tt), (λ i. union (a.1 i) (g.B.Source.remaining bag self.second)))

pub returns-in-Err-clause-none_early : goal.returns-in-Err-clause-none_early
returns-in-Err-clause-none_early g c = λ quiet bag h sees.
    nothing_opened _ (g.T.Tree.state c.args.tree.now) (g.T.Tree.state c.fill_unless.new.tree)
    (c.fill_unless.ensures.quiet quiet.0 (quiet.2 c.args.self.now.first))

pub returns-in-Err-clause-stop : goal.returns-in-Err-clause-stop
returns-in-Err-clause-stop g c = λ of.
    stop_front (g.B.Source.todo c.args.self.now.second) (c.in-Err.ensures.stop (λ honest. (of honest).0))

pub returns-in-Err-clause-anyway : goal.returns-in-Err-clause-anyway
returns-in-Err-clause-anyway g c = grind (arith, anyway_front)

pub returns-in-Err-clause-reached : goal.returns-in-Err-clause-reached
returns-in-Err-clause-reached g c = λ quiet. grind (arith, quiet_stop)

pub returns-in-Err-clause-waits : goal.returns-in-Err-clause-waits
returns-in-Err-clause-waits g c = λ quiet bag h sees some. grind (arith, quiet_stop)

pub returns-clause-no_failure : goal.returns-clause-no_failure
returns-clause-no_failure g c = grind (arith, nothing_then)

pub returns-clause-opens : goal.returns-clause-opens
returns-clause-opens g c = λ quiet. grind (arith, quiet_again, once, opens_nothing)

pub returns-clause-ended : goal.returns-clause-ended
returns-clause-ended g c = λ quiet none. grind arith

pub returns-clause-same : goal.returns-clause-same
returns-clause-same g c = λ bag h sees.
    let self = c.args.self.now in
    let seen =
    sees_each (awaits_second self.filled) (g.A.Source.todo self.first) (g.B.Source.todo self.second) bag
    c.fill_unless.ensures.keeps sees in
    let a = c.fill_unless.ensures.same bag h.0 seen.0 in
    let b = c.fill.ensures.same bag h.1 seen.1 in
    let first = c.in-Ok.ensures.first bag h.0 seen.0 (rw c.awaits_second.ensures h.3) in
    ((a.0, b.0, (first, c.in_ok-fill.ensures.first bag h.1 seen.1), tt), (λ i. union (a.1 i) (b.1 i)))

pub returns-clause-first : goal.returns-clause-first
returns-clause-first g c = λ bag h sees.
    let self = c.args.self.now in
    let seen =
    sees_each (awaits_second self.filled) (g.A.Source.todo self.first) (g.B.Source.todo self.second) bag
    c.fill_unless.ensures.keeps sees in
    let a = c.in-Ok.ensures.first bag h.0 seen.0 (rw c.awaits_second.ensures h.3) in
    let b = c.in_ok-fill.ensures.first bag h.1 seen.1 in
    (λ i. least_of (a i) (b i))
    ∙ sym (first_of_union (g.A.Source.remaining bag c.fill_unless.new.source) (g.B.Source.remaining bag c.fill.new.self)
    (g.met.A.Source.ascends bag c.fill_unless.new.source (c.fill_unless.ensures.same bag h.0 seen.0).0)
    (g.met.B.Source.ascends bag c.fill.new.self (c.fill.ensures.same bag h.1 seen.1).0))

pub returns-clause-none_early : goal.returns-clause-none_early
returns-clause-none_early g c = λ quiet bag h sees.
    let self = c.args.self.now in
    nothing_opened _ (g.T.Tree.state c.args.tree.now) (g.T.Tree.state c.fill.new.tree)
    (quiet_again (quiet.3 self.second) (once (c.in_ok-fill.ensures.opens quiet.1))
    ∙ c.fill_unless.ensures.quiet quiet.0 (quiet.2 self.first))

pub returns-in_err-fill-clause-again : goal.returns-in_err-fill-clause-again
returns-in_err-fill-clause-again g c =
    let p = err_from_is_err_and c.from_residual.result c.from_residual.ensures.1 in
    rw p.1 (λ quiet. grind (arith, quiet_again, once, opens_nothing))

pub returns-in_err-fill-clause-same : goal.returns-in_err-fill-clause-same
returns-in_err-fill-clause-same g c = λ bag h sees.
    let self = c.args.self.now in
    let seen =
    sees_each (awaits_second self.filled) (g.A.Source.todo self.first) (g.B.Source.todo self.second) bag
    c.fill_unless.ensures.keeps sees in
    let a = c.fill_unless.ensures.same bag h.0 seen.0 in
    let b = c.fill.ensures.same bag h.1 seen.1 in (
      (a.0, b.0, tt, c.in-Ok.ensures.first bag h.0 seen.0 (rw c.awaits_second.ensures h.3)),
      (λ i. union (a.1 i) (b.1 i)),
    )

pub returns-in_err-fill-clause-none_early : goal.returns-in_err-fill-clause-none_early
returns-in_err-fill-clause-none_early g c = λ quiet bag h sees.
    let self = c.args.self.now in
    nothing_opened _ (g.T.Tree.state c.args.tree.now) (g.T.Tree.state c.fill.new.tree)
    (quiet_again (quiet.3 self.second) (c.in_err-fill.ensures.again quiet.1)
    ∙ c.fill_unless.ensures.quiet quiet.0 (quiet.2 self.first))

pub returns-in_err-fill-clause-stop : goal.returns-in_err-fill-clause-stop
returns-in_err-fill-clause-stop g c =
    let p = err_from_is_err_and c.from_residual.result c.from_residual.ensures.1 in
    let keeps = c.fill_unless.ensures.keeps in
    rw (p.1, p.2) (λ of.
    stop_front (g.A.Source.todo c.fill_unless.new.source) (stop_later keeps c.in-Ok.ensures.no_failure
    (c.in_err-fill.ensures.stop (λ honest.
    subst (λ bag. g.B.Source.is_of bag c.args.self.now.second) (sym keeps.bag) (of (sym keeps.honest ∙ honest)).1))))

pub returns-in_err-fill-clause-anyway : goal.returns-in_err-fill-clause-anyway
returns-in_err-fill-clause-anyway g c =
    let p = err_from_is_err_and c.from_residual.result c.from_residual.ensures.1 in
    rw (p.1, p.2) (grind (arith, anyway_front, anyway_later))

pub returns-in_err-fill-clause-reached : goal.returns-in_err-fill-clause-reached
returns-in_err-fill-clause-reached g c =
    let p = err_from_is_err_and c.from_residual.result c.from_residual.ensures.1 in
    rw (p.1, p.2) (λ quiet. grind (arith, quiet_stop))

pub returns-in_err-fill-clause-waits : goal.returns-in_err-fill-clause-waits
returns-in_err-fill-clause-waits g c =
    let p = err_from_is_err_and c.from_residual.result c.from_residual.ensures.1 in
    rw (p.1, p.2) (λ quiet bag h sees some. grind (arith, quiet_stop))
