use Rattle.std.proofs.Common.{◌≡◌, ℕ, ◌<◌, None, Some, length, subst, vec_len, arith}
use Rattle.std.proofs.lemmas.Grind.{common_steps}
use Rattle.bag_reports.proofs.LeftLines.{leaves_on}
use Rattle.bag_reports.proofs.OneReport.{same_itself, same_more}
use Rattle.bag_join.specs.Join.{JoinsPart}
use Rattle.bag_join.proofs.Joined.{joins_more, joins_none, part_numbered}
use Rattle.bag_join.proofs.Turns.{has_place, place_at, turn_comes, writes_first_more, writes_first_none}
use Rattle.bag_join.proofs.parts.write_parts.Goals as goal

pub parts-init : goal.parts-init
parts-init g c =
    let state = g.R.Reports.state c.args.input.now.reports in
    let out = g.W.Out.state c.args.out.now in (
      joins_none c.args.plan.now.subject (length c.args.plan.now.places.items) state out,
      same_itself state,
      λ findings are honest planned. writes_first_none findings out,
    )

pub parts-preserved : goal.parts-preserved
parts-preserved g c =
    let state = g.R.Reports.state in
    let out = g.W.Out.state in
    let plan = c.args.plan.now in
    let next = c.in-Ok.ensures.joins in
    let size : vec_len plan.places ≡ length plan.places.items = grind (arith, common_steps) in
    let Joins : ℕ → Type 0 =
    λ of. JoinsPart plan.subject (part_numbered c.parts.index of) (state c.parts.input.reports)
    (state c.write_next.new.input.reports) c.parts.last c.write_next.new.last (out c.parts.out)
    (out c.write_next.new.out) next.0 in
    let part = subst Joins size next.2 in (
      rw next.1 (joins_more _ _ _ _ _ _ _ _ _ _ _ _ _ c.parts.invariant.0 part),
      same_more _ _ _ c.parts.invariant.1 c.in-Ok.ensures.same,
      λ findings are honest planned.
          let parts = planned.parts in
          let first = c.parts.invariant.2 findings are honest planned in
          let inside : c.parts.index < length findings.parts = grind (arith, common_steps) in
          let place = place_at plan.places.items _ c.parts.index (Some c.in-Some.report)
          c.deref-place-items.ensures.value (omega arith) c.in-Some.is in
          let turn = turn_comes findings _ _ plan c.parts.index c.in-Some.report c.parts.total c.parts.last _ _ are honest
          planned c.parts.invariant.1 inside place first in
          let wrote = c.in-Ok.ensures.whole findings turn in
          writes_first_more findings c.parts.index c.parts.last c.write_next.new.last (out c.args.out.now)
          (out c.parts.out) (out c.write_next.new.out) c.parts.total c.in-Ok.count wrote.0 inside first wrote.1 wrote.2,
    )

pub returns-in_default-clause-whole : goal.returns-in_default-clause-whole
returns-in_default-clause-whole g c findings are honest planned =
    let plan = c.args.plan.now in
    let size : vec_len plan.places ≡ length plan.places.items = grind (arith, common_steps) in
    let parts = planned.parts in
    let inside : c.parts.index < length findings.parts = grind (arith, common_steps) in
    absurd
    (has_place findings _ plan c.parts.index planned inside
    (place_at plan.places.items _ c.parts.index None c.deref-place-items.ensures.value (omega arith) c.in_default.is))

pub returns-in-Err-clause-whole : goal.returns-in-Err-clause-whole
returns-in-Err-clause-whole g c findings are honest planned =
    let plan = c.args.plan.now in
    let size : vec_len plan.places ≡ length plan.places.items = grind (arith, common_steps) in
    let parts = planned.parts in
    let first = c.parts.invariant.2 findings are honest planned in
    let inside : c.parts.index < length findings.parts = grind (arith, common_steps) in
    let place = place_at plan.places.items _ c.parts.index (Some c.in-Some.report)
    c.deref-place-items.ensures.value (omega arith) c.in-Some.is in
    let turn = turn_comes findings _ _ plan c.parts.index c.in-Some.report c.parts.total c.parts.last _ _ are honest
    planned c.parts.invariant.1 inside place first in
    c.in-Err.ensures.whole findings turn

pub returns-in-Err-clause-left : goal.returns-in-Err-clause-left
returns-in-Err-clause-left g c =
    let out = g.W.Out.state in
    leaves_on c.in-Err.cause None c.parts.last (out c.args.out.now) (out c.parts.out) (out c.write_next.new.out)
    c.parts.total _ c.parts.invariant.0.wrote c.in-Err.ensures.left
