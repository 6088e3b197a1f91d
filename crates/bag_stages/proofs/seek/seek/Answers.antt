use Rattle.bag_stages.proofs.Common.{sym, ◌∙◌, length-map}
use Rattle.bag_stages.proofs.Sought.{past_first, sought_before, sought_first, sought_nowhere, whole_rest}
use Rattle.bag_stages.proofs.seek.seek.Goals as goal

pub loop-first-init : goal.loop-first-init
loop-first-init g c = λ ascending. whole_rest _ _ ascending

pub loop-first-preserved : goal.loop-first-preserved
loop-first-preserved g c = λ ascending.
    past_first _ _ _ _ (rw c.in-Some.ensures.cases.0 at c.loop-first.invariant ascending)
    (rw c.path.ensures at (sym c.cmp.ensures ∙ c.in-Less.is))

pub returns-in-Equal : goal.returns-in-Equal
returns-in-Equal g c = λ ascending.
    sought_first _ _ _ _ (rw c.in-Some.ensures.cases.0 at c.loop-first.invariant ascending)
    (rw c.path.ensures at (sym c.cmp.ensures ∙ c.in-Equal.is))

pub returns-in-Greater : goal.returns-in-Greater
returns-in-Greater g c = λ ascending.
    rw c.in-Some.ensures.cases.0
    (sought_before _ _ _ _ (rw c.in-Some.ensures.cases.0 at c.loop-first.invariant ascending)
    (rw c.path.ensures at (sym c.cmp.ensures ∙ c.in-Greater.is)))

pub returns : goal.returns
returns g c = λ ascending.
    sought_nowhere _ _ _ (c.loop-first.invariant ascending)
    (length-map c.loop-first.rest.now g.T.HasPath.path_of ∙ c.in_default.ensures.cases)
