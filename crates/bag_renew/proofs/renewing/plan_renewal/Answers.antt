use Rattle.bag_renew.proofs.Common.{refl, sym, subst, ◌∙◌}
use Rattle.bag_text.specs.Lines.{lines_of_file}
use Rattle.bag_facts.specs.FactsOfBag.{IfBagRead}
use Rattle.bag_changes.proofs.Openings.{before_by_info, for_renewal_of_none}
use Rattle.bag_renew.proofs.PlannedRenewal.{planned}
use Rattle.bag_renew.proofs.ReadForRenewal.{deep, info_refused}
use Rattle.bag_changes.specs.NewInfo.{IsInfoAfter, IsInfoRefusal}
use Rattle.bag_renew.specs.Renew.{HasPlanned}
use Rattle.bag_renew.proofs.renewing.plan_renewal.Goals as goal

pub returns-in-Err-clause-refused : goal.returns-in-Err-clause-refused
returns-in-Err-clause-refused g c =
    let facts = c.in_ok-facts.facts in
    let renewal = c.args.renewal.now in
    info_refused renewal (g.T.Tree.state c.args.tree.now) (g.T.Tree.state c.read_bag.new.tree) facts
    c.in_ok-facts.checked.summed.items c.in_ok-facts.checked.info c.in_ok-facts.ensures.read c.in-Err.fault
    (subst (λ bytes. IfBagRead facts (λ bag. IsInfoRefusal bag renewal (lines_of_file bytes) c.in-Err.fault))
    c.as_slice.ensures (λ bag of deep. c.in-Err.ensures.refused bag of deep (c.in_ok-facts.ensures.decided bag of deep)))

pub returns-in-Ok-changes_of-clause-planned : goal.returns-in-Ok-changes_of-clause-planned
returns-in-Ok-changes_of-clause-planned g c =
    let facts = c.in_ok-facts.facts in
    let renewal = c.args.renewal.now in
    let old = g.T.Tree.state c.args.tree.now in
    let new = g.T.Tree.state c.read_bag.new.tree in
    subst (HasPlanned renewal old new) (sym c.from_vec.ensures)
    (planned renewal old new facts
    c.in_ok-facts.checked.summed.items c.in_ok-facts.checked.info c.in_ok-facts.ensures.read c.in-Ok.info
    (subst (λ bytes. IfBagRead facts (λ bag. IsInfoAfter bag renewal (lines_of_file bytes) c.in-Ok.info))
    c.as_slice.ensures (λ bag of deep. c.in-Ok.ensures.text bag of deep (c.in_ok-facts.ensures.decided bag of deep)))
    c.in-Ok-changes_of.changes.items
    (λ bag of deep. c.in-Ok-changes_of.ensures.changes bag of deep renewal (c.in_ok-facts.ensures.decided bag of deep))
    (sym c.is_bad_request.ensures ∙ c.if-is_bad_request.false) c.in-Ok-changes_of.ensures.files)

pub returns-then-is_bad_request-clause-opens : goal.returns-then-is_bad_request-clause-opens
returns-then-is_bad_request-clause-opens g c =
    let old = g.T.Tree.state c.args.tree.now in
    for_renewal_of_none c.args.renewal.now old old old (g.met.T.Tree.is_bag c.args.tree.now) refl

pub returns-in-Err-clause-opens_before : goal.returns-in-Err-clause-opens_before
returns-in-Err-clause-opens_before g c =
    let renewal = c.args.renewal.now in
    let old = g.T.Tree.state c.args.tree.now in
    let new = g.T.Tree.state c.read_bag.new.tree in
    let facts = c.in_ok-facts.facts in
    let has = c.in_ok-facts.ensures.read in
    let far = deep renewal old new facts c.in_ok-facts.checked.summed.items c.in_ok-facts.checked.info has in
    before_by_info has.seen.0 renewal (lines_of_file c.in_ok-facts.checked.info) old new c.in-Err.fault
    (subst (λ bytes. IfBagRead facts (λ bag. IsInfoRefusal bag renewal (lines_of_file bytes) c.in-Err.fault))
    c.as_slice.ensures (λ bag of at. c.in-Err.ensures.refused bag of at (c.in_ok-facts.ensures.decided bag of at))
    has.seen.0 has.seen.2 far)
