use Rattle.std.proofs.Common.{◌≡◌, [], true, sym, ap, ◌∙◌, arith, vec_len}
use Rattle.std.proofs.lemmas.Grind.{common_steps}
use Rattle.bag_reports.specs.DoneLine.{line_for}
use Rattle.bag_reports.proofs.Ends.{may_refuse}
use Rattle.bag_reports.proofs.LeftLines.{leaves_all}
use Rattle.bag_join.proofs.Joined.{joins_part, part_is, part_numbered}
use Rattle.bag_join.specs.Findings.{faults_at, keys_at}
use Rattle.bag_join.proofs.Findings.{front_at}
use Rattle.bag_join.proofs.Turns.{front_is_other, front_planned, front_says_none, turn_ahead}
use Rattle.bag_join.proofs.parts.write_next.Goals as goal

pub returns-clause-joins : goal.returns-clause-joins
returns-clause-joins g c =
    let out = g.W.Out.state in
    let state = g.R.Reports.state in
    let plan = c.args.plan.now in
    let n = c.in_ok-count.count in
    let has = c.in_ok-count.ensures.wrote in
    let part =
    part_is c.args.number c.len.result c.in-Some.part (sym c.new.ensures ∙ c.in-Some.is)
    ∙ ap (λ k. part_numbered c.args.number k) c.len.ensures in
    let truth : c.in_ok-is_done_line.field-0 ≡ true = grind (arith, common_steps) in
    let closes =
    sym c.as_slice.ensures.value ∙ c.in_ok-is_done_line.ensures.0 truth
    ∙ ap (λ p. line_for plan.subject p n) part in (
      n,
      c.in_ok-sum.ensures.sum,
      joins_part plan.subject _ (state c.args.input.now.reports) (state c.open.new.self.reports)
          (state c.write_report.new.input.reports) (state c.expect_end.new.self.reports) c.args.last.now
          c.write_report.new.last (out c.args.out.now) (out c.write_report.new.out) n c.args.report
          c.open.new.self.passed.bytes c.write_report.new.input.passed.bytes c.write_report.new.line.items has.0
          has.1 has.2 c.in_ok-open.ensures.opened c.in_ok-open.ensures.passed c.in_ok-count.ensures.reads
          c.in_ok-expect_end.ensures.reads has.4 closes c.in_ok-expect_end.ensures.ended.0 has.3,
    )

pub returns-in_err-count-clause-whole : goal.returns-in_err-count-clause-whole
returns-in_err-count-clause-whole g c findings turn =
    let ahead = turn_ahead findings _ _ c.args.number (c.in_ok-open.ensures.ahead _ turn.honest turn.held) in
    let fits = turn.few in
    let told = c.in_err-count.ensures.finds (keys_at findings c.args.number) (faults_at findings c.args.number)
    (front_at findings c.args.number) [] (front_is_other findings c.args.number turn.are turn.below)
    (front_says_none findings c.args.number) (turn.are.keys c.args.number turn.below) ahead turn.after (omega arith) in
    grind (arith, common_steps)

pub returns-then-not-branch-clause-whole : goal.returns-then-not-branch-clause-whole
returns-then-not-branch-clause-whole g c findings turn =
    let ahead = turn_ahead findings _ _ c.args.number (c.in_ok-open.ensures.ahead _ turn.honest turn.held) in
    let fits = turn.few in
    let told = c.in_ok-count.ensures.finds (keys_at findings c.args.number) (faults_at findings c.args.number)
    (front_at findings c.args.number) [] (front_is_other findings c.args.number turn.are turn.below)
    (front_says_none findings c.args.number) (turn.are.keys c.args.number turn.below) ahead turn.after (omega arith) in
    let plan = c.args.plan.now in
    let n = c.in_ok-count.count in
    let part =
    part_is c.args.number c.len.result c.in-Some.part (sym c.new.ensures ∙ c.in-Some.is)
    ∙ ap (λ k. part_numbered c.args.number k) c.len.ensures in
    let same =
    c.as_slice.ensures.value ∙ told.1
    ∙ front_planned findings _ plan c.args.number n (vec_len plan.places) turn.planned told.0.count turn.planned.parts
    ∙ ap (λ p. line_for plan.subject p n) (sym part) in
    let truth = c.in_ok-is_done_line.ensures.1 same in
    let not = c.if-not-branch.true in
    grind (arith, common_steps)

pub returns-in_err-expect_end-clause-whole : goal.returns-in_err-expect_end-clause-whole
returns-in_err-expect_end-clause-whole g c findings turn =
    let ahead = turn_ahead findings _ _ c.args.number (c.in_ok-open.ensures.ahead _ turn.honest turn.held) in
    let fits = turn.few in
    let told = c.in_ok-count.ensures.finds (keys_at findings c.args.number) (faults_at findings c.args.number)
    (front_at findings c.args.number) [] (front_is_other findings c.args.number turn.are turn.below)
    (front_says_none findings c.args.number) (turn.are.keys c.args.number turn.below) ahead turn.after (omega arith) in
    let failed = may_refuse _ _ (g.W.Out.state c.write_report.new.out) (c.in_err-expect_end.ensures.refused told.2) in
    grind (arith, common_steps)

pub returns-in_err-sum-clause-whole : goal.returns-in_err-sum-clause-whole
returns-in_err-sum-clause-whole g c findings turn =
    let ahead = turn_ahead findings _ _ c.args.number (c.in_ok-open.ensures.ahead _ turn.honest turn.held) in
    let fits = turn.few in
    let told = c.in_ok-count.ensures.finds (keys_at findings c.args.number) (faults_at findings c.args.number)
    (front_at findings c.args.number) [] (front_is_other findings c.args.number turn.are turn.below)
    (front_says_none findings c.args.number) (turn.are.keys c.args.number turn.below) ahead turn.after (omega arith) in
    let count = told.0.count in
    absurd (c.in_err-sum.ensures.fits (omega arith))

pub returns-clause-whole : goal.returns-clause-whole
returns-clause-whole g c findings turn =
    let ahead = turn_ahead findings _ _ c.args.number (c.in_ok-open.ensures.ahead _ turn.honest turn.held) in
    let fits = turn.few in
    let told = c.in_ok-count.ensures.finds (keys_at findings c.args.number) (faults_at findings c.args.number)
    (front_at findings c.args.number) [] (front_is_other findings c.args.number turn.are turn.below)
    (front_says_none findings c.args.number) (turn.are.keys c.args.number turn.below) ahead turn.after (omega arith) in
    (c.in_ok-count.count, c.in_ok-sum.ensures.sum, told.0)

pub returns-in_err-sum-clause-left : goal.returns-in_err-sum-clause-left
returns-in_err-sum-clause-left g c =
    let out = g.W.Out.state in
    let has = c.in_ok-count.ensures.wrote in
    let left = leaves_all _ c.args.last.now c.write_report.new.last (out c.args.out.now) (out c.write_report.new.out)
    c.in_ok-count.count has.0 c.in_err-sum.ensures.other has.3 in
    grind (arith, common_steps)
