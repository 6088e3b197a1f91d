use Rattle.std.proofs.Common.{◌≡◌, ◌++◌, ◌∷◌, [], Some, true, sym, ap, ◌∙◌, subst, codes, arith, refl}
use Rattle.std.proofs.lemmas.Grind.{common_steps}
use Rattle.bag_reports.specs.Faults.{IsAfter, WritesFaults}
use Rattle.bag_reports.specs.declared.refusal.Cause.TheVariants.{Memory, Output}
use Rattle.bag_reports.proofs.Coming.{found_after, found_whole, goes_on_more, has_end_ahead}
use Rattle.bag_reports.proofs.Faults.{read_one, writes_on, writes_one}
use Rattle.bag_reports.proofs.LeftLines.{fails_other, leaves_all, leaves_cut}
use Rattle.bag_reports.proofs.OneReport.{reads_more}
use Rattle.bag_reports.proofs.fault_lines.write_faults.Goals as goal

pub lines-preserved : goal.lines-preserved
lines-preserved g c =
    let out = g.W.Out.state in
    let has = c.lines.invariant in
    let faults = has.1.0 in
    let f = c.in-Some.fault in
    let line = c.as_slice.result.now in
    let ended = c.push.new.self.items in
    let is = rw c.in-Some.is at c.in_ok-found.ensures in
    let truth : c.is_after.result ≡ true = grind (arith, common_steps) in
    let above = rw c.as_ref.ensures.value at (c.is_after.ensures.0 truth) in
    let ends : ended ≡ line ++ codes "\n" = grind (arith, common_steps) in
    let next : c.next_line.new.self.passed.bytes ≡ c.lines.input.passed.bytes ++ ended = grind (arith, common_steps) in
    let wrote = rw c.as_slice-in-lines.ensures.value at c.in_default-put_all.ensures in
    let first = rw (← c.as_slice.ensures.value) at c.in_ok-next_line.ensures.first in (
      reads_more _ _ _ has.0 c.in_ok-next_line.ensures.reads,
      (
        faults ++ f ∷ [],
        writes_on c.args.last.now c.lines.last (Some f) (out c.args.out.now) (out c.lines.out) (out c.put_all.new.out)
            c.lines.count 1 faults (f ∷ []) has.1.1
            (writes_one c.lines.last (out c.lines.out) (out c.put_all.new.out) f line ended is above ends wrote),
        read_one c.args.input.now.passed.bytes c.lines.input.passed.bytes _ line ended faults f is ends has.1.2 next,
        goes_on_more _ _ _ c.args.input.now.passed.bytes c.lines.input.passed.bytes _ line _ c.args.last.now faults f
            has.1.3 first is,
      ),
    )

pub returns-then-not-branch-clause-finds : goal.returns-then-not-branch-clause-finds
returns-then-not-branch-clause-finds g c faults front rest other ahead after few =
    let has = c.lines.invariant in
    let ends = has_end_ahead _ _ _ c.args.input.now.passed.bytes c.lines.input.passed.bytes _ _ _ c.args.last.now has.1.0
    faults front rest has.1.3 c.in_ok-next_line.ensures.first other ahead after in
    let not = c.if-not-branch.true in
    grind (arith, common_steps)

pub returns-in_default-clause-finds : goal.returns-in_default-clause-finds
returns-in_default-clause-finds g c faults front rest other ahead after few =
    let out = g.W.Out.state in
    let has = c.lines.invariant in
    let line = c.as_slice.result.now in
    let first = rw (← c.as_slice.ensures.value) at c.in_ok-next_line.ensures.first in
    let none = rw c.in_default.is at c.in_ok-found.ensures in
    let all = found_whole _ _ _ c.args.input.now.passed.bytes c.lines.input.passed.bytes _ line _ c.args.last.now
    has.1.0 faults front rest has.1.3 first none other ahead after in
    let ends : c.push.new.self.items ≡ line ++ codes "\n" = grind (arith, common_steps) in (
      subst (λ l. WritesFaults c.args.last.now c.lines.last (out c.args.out.now) (out c.lines.out) c.lines.count l) all.0
          has.1.1,
      ends ∙ ap (λ t. t ++ codes "\n") all.1,
      all.2,
    )

pub returns-then-not-is_after-clause-finds : goal.returns-then-not-is_after-clause-finds
returns-then-not-is_after-clause-finds g c faults front rest other ahead after few =
    let has = c.lines.invariant in
    let f = c.in-Some.fault in
    let line = c.as_slice.result.now in
    let first = rw (← c.as_slice.ensures.value) at c.in_ok-next_line.ensures.first in
    let is = rw c.in-Some.is at c.in_ok-found.ensures in
    let above = found_after _ _ _ c.args.input.now.passed.bytes c.lines.input.passed.bytes _ line _ c.args.last.now
    has.1.0 faults f front rest has.1.3 first is other ahead after in
    let told = rw c.as_ref.ensures.value at c.is_after.ensures in
    let truth = told.1 (subst (λ o. IsAfter o f) (sym has.1.1.last_is) above) in
    let not = c.if-not-is_after.true in
    grind (arith, common_steps)

pub returns-in_err-next_line-clause-left : goal.returns-in_err-next_line-clause-left
returns-in_err-next_line-clause-left g c =
    let out = g.W.Out.state in
    let has = c.lines.invariant in
    let other = fails_other _ _ c.in_err-next_line.ensures.refused in
    let left = leaves_all _ c.args.last.now c.lines.last (out c.args.out.now) (out c.lines.out) c.lines.count has.1.0
    other has.1.1 in
    grind (arith, common_steps)

pub returns-then-not-branch-clause-left : goal.returns-then-not-branch-clause-left
returns-then-not-branch-clause-left g c =
    let out = g.W.Out.state in
    let has = c.lines.invariant in
    leaves_all _ c.args.last.now c.lines.last (out c.args.out.now) (out c.lines.out) c.lines.count has.1.0 (λ e. cc)
    has.1.1

pub returns-then-not-is_after-clause-left : goal.returns-then-not-is_after-clause-left
returns-then-not-is_after-clause-left g c =
    let out = g.W.Out.state in
    let has = c.lines.invariant in
    leaves_all _ c.args.last.now c.lines.last (out c.args.out.now) (out c.lines.out) c.lines.count has.1.0 (λ e. cc)
    has.1.1

pub returns-in_err-found-clause-left : goal.returns-in_err-found-clause-left
returns-in_err-found-clause-left g c =
    let out = g.W.Out.state in
    let has = c.lines.invariant in
    let left = leaves_all Memory c.args.last.now c.lines.last (out c.args.out.now) (out c.lines.out) c.lines.count has.1.0
    (λ e. cc) has.1.1 in
    grind (arith, common_steps)

pub returns-in_err-map_err-clause-left : goal.returns-in_err-map_err-clause-left
returns-in_err-map_err-clause-left g c =
    let out = g.W.Out.state in
    let has = c.lines.invariant in
    let left = leaves_all Memory c.args.last.now c.lines.last (out c.args.out.now) (out c.lines.out) c.lines.count has.1.0
    (λ e. cc) has.1.1 in
    grind (arith, common_steps)

pub returns-in-Err-clause-left : goal.returns-in-Err-clause-left
returns-in-Err-clause-left g c =
    let out = g.W.Out.state in
    let has = c.lines.invariant in
    let f = c.in-Some.fault in
    let line = c.as_slice.result.now in
    let ended = c.push.new.self.items in
    let is = rw c.in-Some.is at c.in_ok-found.ensures in
    let truth : c.is_after.result ≡ true = grind (arith, common_steps) in
    let above = rw c.as_ref.ensures.value at (c.is_after.ensures.0 truth) in
    let ends : ended ≡ line ++ codes "\n" = grind (arith, common_steps) in
    let cut = rw c.as_slice-in-lines.ensures.value at c.in-Err.ensures.0 in
    leaves_cut Output c.args.last.now c.lines.last (out c.args.out.now) (out c.lines.out) (out c.put_all.new.out)
    c.lines.count has.1.0 f line ended refl has.1.1 is above ends cut
