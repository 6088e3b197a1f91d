use Rattle.bag_sources.proofs.Common.{◌≡◌, ◌∙◌, ap, inr, vec_len, sym, arith, option_copied, eqb-true}
use Rattle.bag_sources.proofs.Common.{none_is, nil_from_length}
use Rattle.bag_sources.proofs.Summing.{finds_here, finds_none, goes_past, goes_to_the_end, goes_up_to, gone_on, stops_here}
use Rattle.bag_sources.proofs.validity.next_faults.Goals as goal

pub returns-in-Err-clause-goes : goal.returns-in-Err-clause-goes
returns-in-Err-clause-goes g c =
    goes_up_to c.in-Some.ensures c.loop-file.invariant (g.T.Tree.state c.faults_of_file.new.tree)
    c.faults_of_file.ensures.keeps
    c.in-Err.ensures.opens

pub returns-in-Err-clause-stops : goal.returns-in-Err-clause-stops
returns-in-Err-clause-stops g c =
    stops_here c.in-Some.ensures c.loop-file.invariant (g.T.Tree.state c.faults_of_file.new.tree) c.in-Err.stop
    c.in-Err.ensures.opens
    c.in-Err.ensures.refused
    c.in-Err.ensures.stop
    c.in-Err.ensures.anyway

pub returns-then-not-is_empty-clause-goes : goal.returns-then-not-is_empty-clause-goes
returns-then-not-is_empty-clause-goes g c =
    rw c.leave_first.ensures
    (goes_past c.in-Some.ensures c.loop-file.invariant (g.T.Tree.state c.faults_of_file.new.tree)
    c.faults_of_file.ensures.keeps
    (inr c.in-Ok.ensures.opened))

pub returns-then-not-is_empty-clause-finds : goal.returns-then-not-is_empty-clause-finds
returns-then-not-is_empty-clause-finds g c =
    rw c.leave_first.ensures
    (finds_here c.in-Some.ensures c.loop-file.invariant c.in-Ok.faults.items
    (λ none. grind arith)
    c.in-Ok.ensures.no_failure
    c.in-Ok.ensures.opened
    c.in-Ok.ensures.faults)

pub loop-file-preserved : goal.loop-file-preserved
loop-file-preserved g c =
    let faults = c.in-Ok.faults in
    let zero : vec_len faults ≡ 0 = eqb-true _ _ (sym c.is_empty.ensures ∙ c.if-not-is_empty.false) in
    rw c.leave_first.ensures
    (gone_on c.in-Some.ensures c.loop-file.invariant faults.items
    (nil_from_length faults.items (omega (arith, faults.ok.0, zero)))
    c.faults_of_file.ensures.keeps c.in-Ok.ensures.no_failure c.in-Ok.ensures.opened c.in-Ok.ensures.faults)

pub returns-clause-goes : goal.returns-clause-goes
returns-clause-goes g c =
    goes_to_the_end (none_is c.loop-file.pending (sym c.first.ensures ∙ ap option_copied c.in_default.is))
    c.loop-file.invariant

pub returns-clause-finds : goal.returns-clause-finds
returns-clause-finds g c =
    rw c.new.ensures.items
    (finds_none (none_is c.loop-file.pending (sym c.first.ensures ∙ ap option_copied c.in_default.is))
    c.loop-file.invariant)
