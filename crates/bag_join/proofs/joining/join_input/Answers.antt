use Rattle.std.proofs.Common.{IsTrue, [], ap, arith, subst, sym}
use Rattle.std.proofs.lemmas.Grind.{common_steps}
use Rattle.bag_reports.proofs.Ends.{may_refuse}
use Rattle.bag_reports.proofs.OneReport.{same_more}
use Rattle.bag_join.proofs.Joined.{joins_all}
use Rattle.bag_join.proofs.Left.{closing_left, nothing_left, report_left}
use Rattle.bag_join.proofs.Turns.{report_written, same_plan}
use Rattle.bag_join.proofs.joining.join_input.Goals as goal

pub returns-clause-joined : goal.returns-clause-joined
returns-clause-joined g c =
    let joins = c.in_ok-count.ensures.joins in
    let closes = rw c.as_str.ensures at c.in_ok-outcome.ensures.closes in
    rw c.in_ok-outcome.ensures.outcome
    (joins_all _ _ _ _ _ _ _ _ _ c.in_ok-plan.ensures.some c.in_ok-plan.ensures.most joins.1 closes)

pub returns-in_err-plan-clause-whole : goal.returns-in_err-plan-clause-whole
returns-in_err-plan-clause-whole g c findings whole =
    let failed = may_refuse _ _ (g.W.Out.state c.args.out.now) (c.in_err-plan.ensures.whole findings whole) in
    grind (arith, common_steps)

pub returns-in_err-count-clause-whole : goal.returns-in_err-count-clause-whole
returns-in_err-count-clause-whole g c findings whole =
    let same = same_more _ _ _ c.in_ok-plan.ensures.same c.in_ok-write_parts.ensures.same in
    let honest = subst IsTrue (sym same.honest) whole.honest in
    let planned = same_plan findings _ _ c.in_ok-plan.plan c.in_ok-write_parts.ensures.same
    (c.in_ok-plan.ensures.whole findings whole) in
    let refused = c.in_err-count.ensures.whole findings whole.are honest planned in
    grind (arith, common_steps)

pub returns-clause-whole : goal.returns-clause-whole
returns-clause-whole g c findings whole =
    let same = same_more _ _ _ c.in_ok-plan.ensures.same c.in_ok-write_parts.ensures.same in
    let honest = subst IsTrue (sym same.honest) whole.honest in
    let planned = same_plan findings _ _ c.in_ok-plan.plan c.in_ok-write_parts.ensures.same
    (c.in_ok-plan.ensures.whole findings whole) in
    let wrote = c.in_ok-count.ensures.whole findings whole.are honest planned in
    let closes = rw c.as_str.ensures at c.in_ok-outcome.ensures.closes in
    report_written findings _ wrote.0 (g.W.Out.state c.args.out.now) (g.W.Out.state c.write_again.new.out)
    (g.W.Out.state c.close.new.out) _ _ (ap (λ s. s.name) planned.subject) wrote.1 closes c.in_ok-outcome.ensures.outcome

pub returns-in_err-plan-clause-left : goal.returns-in_err-plan-clause-left
returns-in_err-plan-clause-left g c =
    let left = nothing_left c.in_err-plan.field-0.0.cause (g.W.Out.state c.args.out.now) in
    grind (arith, common_steps)

pub returns-in_err-write_parts-clause-left : goal.returns-in_err-write_parts-clause-left
returns-in_err-write_parts-clause-left g c =
    let left = nothing_left c.in_err-write_parts.field-0.0.cause (g.W.Out.state c.args.out.now) in
    grind (arith, common_steps)

pub returns-in_err-count-clause-left : goal.returns-in_err-count-clause-left
returns-in_err-count-clause-left g c =
    let left = report_left _ [] _ _ c.in_err-count.ensures.left in
    grind (arith, common_steps)

pub returns-in_err-outcome-clause-left : goal.returns-in_err-outcome-clause-left
returns-in_err-outcome-clause-left g c =
    let joins = c.in_ok-count.ensures.joins in
    let refused = c.in_err-outcome.ensures.refused in
    let left = closing_left _ c.as_str.result.now joins.0 (g.W.Out.state c.args.out.now) (g.W.Out.state c.write_again.new.out)
    (g.W.Out.state c.close.new.out) _ _ refused.0 joins.1.wrote refused.2 in
    grind (arith, common_steps)
