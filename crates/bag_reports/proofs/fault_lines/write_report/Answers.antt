use Rattle.std.proofs.Common.{◌≡◌, ◌+◌, ◌++◌, ◌∷◌, [], true, sym, ap, ◌∙◌, subst, codes, arith}
use Rattle.std.proofs.lemmas.Grind.{common_steps}
use Rattle.bag_reports.specs.Faults.{AreAfter, WritesFaults}
use Rattle.bag_reports.specs.declared.refusal.Cause.TheVariants.{CutOff, Memory}
use Rattle.bag_reports.proofs.Ends.{may_refuse}
use Rattle.bag_reports.proofs.Faults.{writes_none, writes_on, writes_one}
use Rattle.bag_reports.proofs.LeftLines.{fails_other, leaves_all, leaves_none, leaves_on}
use Rattle.bag_reports.proofs.OneReport.{reads_more}
use Rattle.bag_reports.proofs.WholeReport.{first_is, none_first, not_first, read_on, refused_first, rest_is}
use Rattle.bag_reports.proofs.fault_lines.write_report.Goals as goal

pub returns-clause-reads : goal.returns-clause-reads
returns-clause-reads g c = reads_more _ _ _ c.in_ok-first_line.ensures.reads c.in_ok-more.ensures.reads

pub returns-in_err-first_line-clause-left : goal.returns-in_err-first_line-clause-left
returns-in_err-first_line-clause-left g c =
    let other = fails_other _ _ c.in_err-first_line.ensures.refused in
    let left = leaves_none _ c.args.last.now (g.W.Out.state c.args.out.now) other in
    grind (arith, common_steps)

pub returns-in_err-first_line-clause-finds : goal.returns-in_err-first_line-clause-finds
returns-in_err-first_line-clause-finds g c keys faults front rest other none are ahead after few =
    let may = may_refuse _ _ (g.W.Out.state c.args.out.now) c.in_err-first_line.ensures.refused in
    grind (arith, common_steps)

pub returns-then-not-branch-clause-finds : goal.returns-then-not-branch-clause-finds
returns-then-not-branch-clause-finds g c keys faults front rest other none are ahead after few =
    let first = first_is _ _ _ _ c.first_line.new.line.items _ c.args.last.now keys faults front rest
    c.in_ok-first_line.ensures.first other none are after ahead in
    let truth = first.0 in
    let not = c.if-not-branch.true in
    grind (arith, common_steps)

pub returns-then-not-branch-clause-left : goal.returns-then-not-branch-clause-left
returns-then-not-branch-clause-left g c = leaves_none CutOff c.args.last.now (g.W.Out.state c.args.out.now) (λ e. cc)

pub returns-in_err-found-clause-left : goal.returns-in_err-found-clause-left
returns-in_err-found-clause-left g c =
    let left = leaves_none Memory c.args.last.now (g.W.Out.state c.args.out.now) (λ e. cc) in
    grind (arith, common_steps)

pub returns-in_err-map_err-clause-left : goal.returns-in_err-map_err-clause-left
returns-in_err-map_err-clause-left g c =
    let left = leaves_none Memory c.args.last.now (g.W.Out.state c.args.out.now) (λ e. cc) in
    grind (arith, common_steps)

pub returns-in_default-clause-wrote : goal.returns-in_default-clause-wrote
returns-in_default-clause-wrote g c =
    let has = c.in_ok-first_line.ensures.line in
    let truth : c.in_ok-first_line.field-0 ≡ true = grind (arith, common_steps) in
    let passed = rw truth at has.2 in
    let ends : c.push.new.self.items ≡ c.first_line.new.line.items ++ codes "\n" = grind (arith, common_steps) in (
      [],
      has.0,
      has.1,
      writes_none c.args.last.now (g.W.Out.state c.args.out.now),
      rw ends passed,
    )

pub returns-in_default-clause-finds : goal.returns-in_default-clause-finds
returns-in_default-clause-finds g c keys faults front rest other none are ahead after few =
    let out = g.W.Out.state c.args.out.now in
    let line = c.as_slice.result.now in
    let reads = rw (← c.as_slice.ensures.value) at c.in_ok-first_line.ensures.first in
    let first = first_is _ _ _ _ line _ c.args.last.now keys faults front rest reads other none are after ahead in
    let found = rw c.in_default.is at c.in_ok-found.ensures in
    let all = none_first _ _ line faults front rest found first.1 in
    let ends : c.push.new.self.items ≡ line ++ codes "\n" = grind (arith, common_steps) in (
      subst (λ l. WritesFaults c.args.last.now c.args.last.now out out 0 l) (sym all.0) (writes_none c.args.last.now out),
      ends ∙ ap (λ t. t ++ codes "\n") all.1,
      all.2,
    )

pub returns-clause-wrote : goal.returns-clause-wrote
returns-clause-wrote g c =
    let out = g.W.Out.state in
    let f = c.in-Some.fault in
    let line = c.as_slice.result.now in
    let ended = c.push.new.self.items in
    let has = c.in_ok-first_line.ensures.line in
    let truth : c.in_ok-first_line.field-0 ≡ true = grind (arith, common_steps) in
    let passed = rw (truth, ← c.as_slice.ensures.value) at has.2 in
    let is = rw c.in-Some.is at c.in_ok-found.ensures in
    let ends : ended ≡ line ++ codes "\n" = grind (arith, common_steps) in
    let more = c.in_ok-more.ensures.wrote in
    let one = c.in_ok-write_first.ensures.wrote in
    let wrote = rw c.as_slice-2.ensures.value at one.2 in
    let first = subst (λ l. WritesFaults c.args.last.now l (out c.args.out.now) (out c.write_first.new.out) 1 (f ∷ []))
    (sym one.1)
    (writes_one c.args.last.now (out c.args.out.now) (out c.write_first.new.out) f line ended is one.0 ends wrote) in
    let sum = writes_on c.args.last.now c.write_first.new.last c.write_faults.new.last (out c.args.out.now)
    (out c.write_first.new.out) (out c.write_faults.new.out) 1 c.in_ok-more.more (f ∷ []) more.0 first more.1 in (
      f ∷ more.0,
      has.0,
      has.1,
      subst (λ n. WritesFaults c.args.last.now c.write_faults.new.last (out c.args.out.now) (out c.write_faults.new.out) n
          (f ∷ more.0)) (sym c.in_ok-count.ensures.sum) sum,
      read_on c.args.input.now.passed.bytes c.first_line.new.input.passed.bytes _ line ended _ has.0 more.0 f is ends
          passed more.2,
    )

pub returns-in_err-write_first-clause-left : goal.returns-in_err-write_first-clause-left
returns-in_err-write_first-clause-left g c =
    let out = g.W.Out.state in
    let f = c.in-Some.fault in
    let line = c.as_slice.result.now in
    let ended = c.push.new.self.items in
    let is = rw c.in-Some.is at c.in_ok-found.ensures in
    let ends : ended ≡ line ++ codes "\n" = grind (arith, common_steps) in
    let refused = rw c.as_slice-2.ensures.value at c.in_err-write_first.ensures.refused in
    let left = not_first _ c.args.last.now (out c.args.out.now) (out c.write_first.new.out) f line ended is ends refused in
    grind (arith, common_steps)

pub returns-in_err-write_first-clause-finds : goal.returns-in_err-write_first-clause-finds
returns-in_err-write_first-clause-finds g c keys faults front rest other none are ahead after few =
    let may = refused_first _ (g.R.Reports.state c.first_line.new.input.reports) c.args.last.now
    (g.W.Out.state c.args.out.now) (g.W.Out.state c.write_first.new.out) c.in-Some.fault _
    (rest_is _ _ _ _ c.as_slice.result.now _ c.args.last.now keys faults front rest c.in-Some.fault
    (rw (← c.as_slice.ensures.value) at c.in_ok-first_line.ensures.first) other none are after ahead
    (rw c.in-Some.is at c.in_ok-found.ensures)).above
    c.in_err-write_first.ensures.refused in
    grind (arith, common_steps)

pub returns-in_err-more-clause-left : goal.returns-in_err-more-clause-left
returns-in_err-more-clause-left g c =
    let out = g.W.Out.state in
    let f = c.in-Some.fault in
    let line = c.as_slice.result.now in
    let ended = c.push.new.self.items in
    let is = rw c.in-Some.is at c.in_ok-found.ensures in
    let ends : ended ≡ line ++ codes "\n" = grind (arith, common_steps) in
    let one = c.in_ok-write_first.ensures.wrote in
    let wrote = rw c.as_slice-2.ensures.value at one.2 in
    let first = subst (λ l. WritesFaults c.args.last.now l (out c.args.out.now) (out c.write_first.new.out) 1 (f ∷ []))
    (sym one.1)
    (writes_one c.args.last.now (out c.args.out.now) (out c.write_first.new.out) f line ended is one.0 ends wrote) in
    let left = leaves_on _ c.args.last.now c.write_first.new.last (out c.args.out.now) (out c.write_first.new.out)
    (out c.write_faults.new.out) 1 (f ∷ []) first c.in_err-more.ensures.left in
    grind (arith, common_steps)

pub returns-in_err-more-clause-finds : goal.returns-in_err-more-clause-finds
returns-in_err-more-clause-finds g c keys faults front rest other none are ahead after few =
    let told =
    (let later = rest_is _ _ _ _ c.as_slice.result.now _ c.args.last.now keys faults front rest c.in-Some.fault
    (rw (← c.as_slice.ensures.value) at c.in_ok-first_line.ensures.first) other none are after ahead
    (rw c.in-Some.is at c.in_ok-found.ensures) in
    let count = later.count in
    c.in_err-more.ensures.finds later.more front rest other later.ahead
    (subst (λ o. AreAfter o later.more) (sym c.in_ok-write_first.ensures.wrote.1) later.after) (omega arith)) in
    grind (arith, common_steps)

pub returns-in_err-count-clause-left : goal.returns-in_err-count-clause-left
returns-in_err-count-clause-left g c =
    let out = g.W.Out.state in
    let f = c.in-Some.fault in
    let line = c.as_slice.result.now in
    let ended = c.push.new.self.items in
    let is = rw c.in-Some.is at c.in_ok-found.ensures in
    let ends : ended ≡ line ++ codes "\n" = grind (arith, common_steps) in
    let more = c.in_ok-more.ensures.wrote in
    let one = c.in_ok-write_first.ensures.wrote in
    let wrote = rw c.as_slice-2.ensures.value at one.2 in
    let first = subst (λ l. WritesFaults c.args.last.now l (out c.args.out.now) (out c.write_first.new.out) 1 (f ∷ []))
    (sym one.1)
    (writes_one c.args.last.now (out c.args.out.now) (out c.write_first.new.out) f line ended is one.0 ends wrote) in
    let sum = writes_on c.args.last.now c.write_first.new.last c.write_faults.new.last (out c.args.out.now)
    (out c.write_first.new.out) (out c.write_faults.new.out) 1 c.in_ok-more.more (f ∷ []) more.0 first more.1 in
    let left = leaves_all _ c.args.last.now c.write_faults.new.last (out c.args.out.now) (out c.write_faults.new.out)
    (1 + c.in_ok-more.more) (f ∷ more.0) c.in_err-count.ensures.other sum in
    grind (arith, common_steps)

pub returns-in_err-count-clause-finds : goal.returns-in_err-count-clause-finds
returns-in_err-count-clause-finds g c keys faults front rest other none are ahead after few =
    let later = rest_is _ _ _ _ c.as_slice.result.now _ c.args.last.now keys faults front rest c.in-Some.fault
    (rw (← c.as_slice.ensures.value) at c.in_ok-first_line.ensures.first) other none are after ahead
    (rw c.in-Some.is at c.in_ok-found.ensures) in
    let long = later.count in
    let told = c.in_ok-more.ensures.finds later.more front rest other later.ahead
    (subst (λ o. AreAfter o later.more) (sym c.in_ok-write_first.ensures.wrote.1) later.after) (omega arith) in
    let count = told.0.count in
    absurd (c.in_err-count.ensures.fits (omega arith))

pub returns-clause-finds : goal.returns-clause-finds
returns-clause-finds g c keys faults front rest other none are ahead after few =
    let out = g.W.Out.state in
    let f = c.in-Some.fault in
    let line = c.as_slice.result.now in
    let ended = c.push.new.self.items in
    let later = rest_is _ _ _ _ c.as_slice.result.now _ c.args.last.now keys faults front rest c.in-Some.fault
    (rw (← c.as_slice.ensures.value) at c.in_ok-first_line.ensures.first) other none are after ahead
    (rw c.in-Some.is at c.in_ok-found.ensures) in
    let is = rw c.in-Some.is at c.in_ok-found.ensures in
    let ends : ended ≡ line ++ codes "\n" = grind (arith, common_steps) in
    let long = later.count in
    let told = c.in_ok-more.ensures.finds later.more front rest other later.ahead
    (subst (λ o. AreAfter o later.more) (sym c.in_ok-write_first.ensures.wrote.1) later.after) (omega arith) in
    let one = c.in_ok-write_first.ensures.wrote in
    let wrote = rw c.as_slice-2.ensures.value at one.2 in
    let begun = subst (λ l. WritesFaults c.args.last.now l (out c.args.out.now) (out c.write_first.new.out) 1 (f ∷ []))
    (sym one.1)
    (writes_one c.args.last.now (out c.args.out.now) (out c.write_first.new.out) f line ended is one.0 ends wrote) in
    let sum = writes_on c.args.last.now c.write_first.new.last c.write_faults.new.last (out c.args.out.now)
    (out c.write_first.new.out) (out c.write_faults.new.out) 1 c.in_ok-more.more (f ∷ []) later.more begun told.0 in (
      subst (λ l. WritesFaults c.args.last.now c.write_faults.new.last (out c.args.out.now) (out c.write_faults.new.out)
          c.in_ok-count.count l) (sym later.cut)
          (subst (λ n. WritesFaults c.args.last.now c.write_faults.new.last (out c.args.out.now) (out c.write_faults.new.out)
          n (f ∷ later.more)) (sym c.in_ok-count.ensures.sum) sum),
      told.1,
      told.2,
    )
