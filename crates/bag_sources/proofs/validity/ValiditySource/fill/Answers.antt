use Rattle.bag_sources.proofs.Common.{◌++◌, ◌∙◌, ap, sym, faults_of_files, none_is, paths_to_sum}
use Rattle.bag_sources.proofs.Common.{err_from_is_err_and}
use Rattle.bag_sources.proofs.Summing.{first_filled, refilled, refused}
use Rattle.bag_sources.proofs.validity.ValiditySource.fill.Goals as goal

pub returns-clause-keeps : goal.returns-clause-keeps
returns-clause-keeps g c = c.next_faults.ensures.goes.keeps

pub returns-clause-no_failure : goal.returns-clause-no_failure
returns-clause-no_failure g c = c.in_ok-faults.ensures.finds.no_failure

pub returns-clause-opens : goal.returns-clause-opens
returns-clause-opens g c = λ ordered. c.in_ok-faults.ensures.finds.opens

pub returns-clause-ended : goal.returns-clause-ended
returns-clause-ended g c = λ ordered none.
    ap paths_to_sum (c.in_ok-faults.ensures.finds.ended (sym c.new.ensures ∙ none_is c.new.result none))

pub returns-clause-same : goal.returns-clause-same
returns-clause-same g c = λ bag h sees.
    let self = c.args.self.now in
    let new = c.next_faults.new.pending in
    let e = rw c.as_ref.ensures.value at (c.in_ok-faults.ensures.finds.found bag sees) in
    refilled bag self.after self.pending new self.found h (c.next_faults.ensures.goes.files bag h.files) c.new.result
    (c.is_empty.ensures.0 c.if-not-is_empty.false)
    (ap (λ l. l ++ faults_of_files bag self.after new) c.new.ensures ∙ e)

pub returns-clause-first : goal.returns-clause-first
returns-clause-first g c = λ bag h sees.
    first_filled bag c.args.self.now.after c.next_faults.new.pending c.new.result
    (λ none. c.in_ok-faults.ensures.finds.ended (sym c.new.ensures ∙ none))

pub returns-clause-none_early : goal.returns-clause-none_early
returns-clause-none_early g c = λ ordered bag h sees.
    rw (c.is_empty.ensures.0 c.if-not-is_empty.false)
    (rw c.as_ref.ensures.value at (c.next_faults.ensures.goes.none_early bag sees h.files))

pub returns-in_err-faults-clause-keeps : goal.returns-in_err-faults-clause-keeps
returns-in_err-faults-clause-keeps g c = c.next_faults.ensures.goes.keeps

pub returns-in_err-faults-clause-again : goal.returns-in_err-faults-clause-again
returns-in_err-faults-clause-again g c =
    let p = err_from_is_err_and c.from_residual.result c.from_residual.ensures.1 in
    rw p.1 (λ ordered. c.in_err-faults.ensures.stops.again)

pub returns-in_err-faults-clause-same : goal.returns-in_err-faults-clause-same
returns-in_err-faults-clause-same g c = λ bag h sees.
    let self = c.args.self.now in
    refused bag self.after self.pending c.next_faults.new.pending self.found h
    (c.next_faults.ensures.goes.files bag h.files)
    (rw c.as_ref.ensures.value at (c.in_err-faults.ensures.stops.same bag sees))

pub returns-in_err-faults-clause-none_early : goal.returns-in_err-faults-clause-none_early
returns-in_err-faults-clause-none_early g c = λ ordered bag h sees.
    rw (c.is_empty.ensures.0 c.if-not-is_empty.false)
    (rw c.as_ref.ensures.value at (c.next_faults.ensures.goes.none_early bag sees h.files))

pub returns-in_err-faults-clause-reached : goal.returns-in_err-faults-clause-reached
returns-in_err-faults-clause-reached g c =
    let p = err_from_is_err_and c.from_residual.result c.from_residual.ensures.1 in
    rw (p.1, p.2) (λ ordered. c.in_err-faults.ensures.stops.reached)

pub returns-in_err-faults-clause-waits : goal.returns-in_err-faults-clause-waits
returns-in_err-faults-clause-waits g c =
    let p = err_from_is_err_and c.from_residual.result c.from_residual.ensures.1 in
    rw (p.1, p.2) (λ ordered bag h sees.
    rw (c.is_empty.ensures.0 c.if-not-is_empty.false)
    (rw c.as_ref.ensures.value at (c.in_err-faults.ensures.stops.waits bag sees h.files)))

pub returns-in_err-faults-clause-stop : goal.returns-in_err-faults-clause-stop
returns-in_err-faults-clause-stop g c =
    let p = err_from_is_err_and c.from_residual.result c.from_residual.ensures.1 in
    rw (p.1, p.2) (λ of. c.in_err-faults.ensures.stops.may_stop (λ honest. (of honest).files))

pub returns-in_err-faults-clause-anyway : goal.returns-in_err-faults-clause-anyway
returns-in_err-faults-clause-anyway g c =
    let p = err_from_is_err_and c.from_residual.result c.from_residual.ensures.1 in
    rw (p.1, p.2) c.in_err-faults.ensures.stops.may_stop_anyway
