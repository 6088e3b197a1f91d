use Rattle.std.proofs.Common.{◌≡◌, get_or, length, vec_len, arith, ap, sym, ◌∙◌, replicate, None, Some}
use Rattle.std.specs.Prelude.{slice_get, slice_set}
use Rattle.std.proofs.lemmas.Grind.{common_steps}
use Rattle.bag_reports.proofs.OneReport.{same_itself, same_more}
use Rattle.bag_join.proofs.Placing.{all_placed, fills_next, fills_none, held_count, is_planned, next_free, order_is}
use Rattle.bag_join.proofs.plan.plan_of.Goals as goal

pub returns-in_err-subject-clause-whole : goal.returns-in_err-subject-clause-whole
returns-in_err-subject-clause-whole g c findings whole =
    let turn = is_planned findings _ _ 0 (same_itself (g.R.Reports.state c.args.input.now.reports)) whole whole.are.some in
    let told = c.in_err-subject.ensures.whole findings (get_or whole.order 0 0) whole.are turn.below turn.honest turn.there
    turn.held in
    grind (arith, common_steps)

pub reports-init : goal.reports-init
reports-init g c = (
  c.in_ok-subject.ensures.same,
  λ findings whole.
      let state = g.R.Reports.state c.args.input.now.reports in
      let is = order_is (length findings.parts) whole.order whole.each_once in
      let size = is.size in
      let turn = is_planned findings _ _ 0 (same_itself state) whole whole.are.some in
      let told = c.in_ok-subject.ensures.whole findings (get_or whole.order 0 0) whole.are turn.below turn.honest
      turn.there turn.held in
      let of : c.of.result ≡ length whole.order = c.of.ensures.of ∙ ap (λ said. said.part.of) told ∙ sym size in
      fills_none whole.order c.in-Ok.places.items
      (c.in-Ok.ensures.places ∙ ap (λ n. replicate n None) of),
)

pub returns-in_err-said-clause-whole : goal.returns-in_err-said-clause-whole
returns-in_err-said-clause-whole g c findings whole =
    let has = c.reports.invariant in
    let count = c.count-number-end.ensures in
    let same = c.in_ok-subject.ensures.same in
    let as_many = same.count ∙ held_count findings _ whole in
    let more = c.reports-test.true in
    let turn = is_planned findings _ _ c.reports.number has.0 whole (omega arith) in
    let told = c.in_err-said.ensures.whole findings (get_or whole.order c.reports.number 0) whole.are turn.below
    turn.honest turn.there turn.held in
    grind (arith, common_steps)

pub returns-in-Err-take_place-clause-whole : goal.returns-in-Err-take_place-clause-whole
returns-in-Err-take_place-clause-whole g c findings whole =
    let state = g.R.Reports.state c.args.input.now.reports in
    let has = c.reports.invariant in
    let count = c.count-number-end.ensures in
    let same = c.in_ok-subject.ensures.same in
    let as_many = same.count ∙ held_count findings _ whole in
    let more = c.reports-test.true in
    let is = order_is (length findings.parts) whole.order whole.each_once in
    let first = is_planned findings _ _ 0 (same_itself state) whole whole.are.some in
    let told = c.in_ok-subject.ensures.whole findings (get_or whole.order 0 0) whole.are first.below first.honest
    first.there first.held in
    let turn = is_planned findings _ _ c.reports.number has.0 whole (omega arith) in
    let said = c.in_ok-said.ensures.whole findings (get_or whole.order c.reports.number 0) whole.are turn.below
    turn.honest turn.there turn.held in
    let fills = has.1 findings whole in
    let free = next_free (length findings.parts) whole.order c.reports.places.items c.reports.number is (omega arith)
    fills in
    let n1 : c.in_ok-said.said.subject ≡ c.in_ok-subject.field-0.subject = ap (λ s. s.subject) said ∙ sym (ap (λ s. s.subject) told) in
    let size = is.size in
    let long = fills.size in
    let of : c.in_ok-said.said.part.of ≡ length findings.parts = ap (λ s. s.part.of) said in
    let n3 : c.in_ok-said.said.part.of ≡ vec_len c.reports.places = grind (arith, common_steps) in
    let n4 : slice_get c.reports.places.items c.in_ok-said.said.part.number ≡ Some None =
    ap (λ n. slice_get c.reports.places.items n) (ap (λ s. s.part.number) said) ∙ free in
    absurd (c.in-Err-take_place.ensures.takes n1 n3 n4)

pub reports-preserved : goal.reports-preserved
reports-preserved g c = (
  same_more _ _ _ c.reports.invariant.0 c.in_ok-said.ensures.same,
  λ findings whole.
      let state = g.R.Reports.state c.args.input.now.reports in
      let has = c.reports.invariant in
      let count = c.count-number-end.ensures in
      let same = c.in_ok-subject.ensures.same in
      let as_many = same.count ∙ held_count findings _ whole in
      let more = c.reports-test.true in
      let is = order_is (length findings.parts) whole.order whole.each_once in
      let first = is_planned findings _ _ 0 (same_itself state) whole whole.are.some in
      let told = c.in_ok-subject.ensures.whole findings (get_or whole.order 0 0) whole.are first.below first.honest
      first.there first.held in
      let turn = is_planned findings _ _ c.reports.number has.0 whole (omega arith) in
      let said = c.in_ok-said.ensures.whole findings (get_or whole.order c.reports.number 0) whole.are turn.below
      turn.honest turn.there turn.held in
      let fills = has.1 findings whole in
      let free = next_free (length findings.parts) whole.order c.reports.places.items c.reports.number is (omega arith)
      fills in
      let n1 : c.in_ok-said.said.subject ≡ c.in_ok-subject.field-0.subject = ap (λ s. s.subject) said ∙ sym (ap (λ s. s.subject) told) in
      let size = is.size in
      let long = fills.size in
      let of : c.in_ok-said.said.part.of ≡ length findings.parts = ap (λ s. s.part.of) said in
      let n3 : c.in_ok-said.said.part.of ≡ vec_len c.reports.places = grind (arith, common_steps) in
      let n4 : slice_get c.reports.places.items c.in_ok-said.said.part.number ≡ Some None =
      ap (λ n. slice_get c.reports.places.items n) (ap (λ s. s.part.number) said) ∙ free in
      fills_next (length findings.parts) whole.order c.reports.places.items c.take_place.new.places.items c.reports.number
      is (omega arith) fills
      (c.in_default.ensures.takes n1 n3 n4
      ∙ ap (λ n. slice_set c.reports.places.items n (Some c.reports.number)) (ap (λ s. s.part.number) said)),
)

pub returns-clause-whole : goal.returns-clause-whole
returns-clause-whole g c findings whole =
    let state = g.R.Reports.state c.args.input.now.reports in
    let has = c.reports.invariant in
    let count = c.count-number-end.ensures in
    let same = c.in_ok-subject.ensures.same in
    let as_many = same.count ∙ held_count findings _ whole in
    let done = c.reports-test.false in
    let is = order_is (length findings.parts) whole.order whole.each_once in
    let size = is.size in
    let first = is_planned findings _ _ 0 (same_itself state) whole whole.are.some in
    let told = c.in_ok-subject.ensures.whole findings (get_or whole.order 0 0) whole.are first.below first.honest
    first.there first.held in
    let fills = has.1 findings whole in
    let long = fills.size in
    record {
      subject = ap (λ said. said.subject) told;
      parts = grind (arith, common_steps);
      placed =
          λ k inside. all_placed findings _ _ c.reports.places.items c.reports.number has.0 whole (omega arith) fills k
          inside;
    }
