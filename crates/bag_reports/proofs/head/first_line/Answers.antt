use Rattle.std.proofs.Common.{◌≡◌, ◌++◌, ◌∷◌, [], true, sym, subst, append-nil, codes, refl, false, arith}
use Rattle.std.proofs.lemmas.Grind.{common_steps}
use Rattle.bag_reports.specs.Head.{IsUnchecked}
use Rattle.bag_reports.proofs.KeyLines.{keys_more, leads_first, leads_last, leads_more, leads_on}
use Rattle.bag_reports.proofs.KeyLines.{passed_more, passed_on}
use Rattle.bag_reports.proofs.OneReport.{reads_itself, reads_more}
use Rattle.bag_reports.proofs.head.first_line.Goals as goal

pub lines-init : goal.lines-init
lines-init g c =
    let state = g.R.Reports.state c.args.input.now.reports in
    let passed = c.args.input.now.passed.bytes in
    (reads_itself state, ([], tt, sym (append-nil passed)), leads_first state passed)

pub lines-preserved : goal.lines-preserved
lines-preserved g c =
    let has = c.lines.invariant in
    let line = c.next_line.new.line.items in
    let truth : c.is_unchecked.result ≡ true = grind (arith, common_steps) in
    let is = subst IsUnchecked c.as_slice.ensures.value (c.is_unchecked.ensures.0 truth) in
    let next : c.next_line.new.self.passed.bytes ≡ c.lines.input.passed.bytes ++ (line ++ codes "\n") =
    grind (arith, common_steps) in (
      reads_more _ _ _ has.0 c.in_ok-next_line.ensures.reads,
      (
        has.1.0 ++ is.0 ∷ [],
        keys_more has.1.0 is.0 has.1.1 is.1,
        passed_more c.args.input.now.passed.bytes c.lines.input.passed.bytes _ line has.1.0 is.0 is.2 has.1.2 next,
      ),
      leads_more _ _ _ c.args.input.now.passed.bytes c.lines.input.passed.bytes _ line _ has.2
          c.in_ok-next_line.ensures.first is,
    )

pub returns-then-not-branch-clause-line : goal.returns-then-not-branch-clause-line
returns-then-not-branch-clause-line g c =
    let has = c.lines.invariant in
    let falsity : c.in_ok-next_line.field-0 ≡ false = grind (arith, common_steps) in (
      has.1.0,
      has.1.1,
      passed_on c.args.input.now.passed.bytes c.lines.input.passed.bytes _ _ has.1.0 has.1.2
          (rw falsity at c.in_ok-next_line.ensures.line),
    )

pub returns-then-not-branch-clause-first : goal.returns-then-not-branch-clause-first
returns-then-not-branch-clause-first g c keys front rest are plain other ahead =
    let has = c.lines.invariant in
    let truth = leads_on _ _ _ c.args.input.now.passed.bytes c.lines.input.passed.bytes _ c.next_line.new.line.items _
    has.2 c.in_ok-next_line.ensures.first keys front rest are plain other ahead in
    let not = c.if-not-branch.true in
    grind (arith, common_steps)

pub returns-then-not-is_unchecked-clause-line : goal.returns-then-not-is_unchecked-clause-line
returns-then-not-is_unchecked-clause-line g c =
    let has = c.lines.invariant in
    let truth : c.in_ok-next_line.field-0 ≡ true = grind (arith, common_steps) in (
      has.1.0,
      has.1.1,
      passed_on c.args.input.now.passed.bytes c.lines.input.passed.bytes _ _ has.1.0 has.1.2
          (rw truth at c.in_ok-next_line.ensures.line),
    )

pub returns-then-not-is_unchecked-clause-first : goal.returns-then-not-is_unchecked-clause-first
returns-then-not-is_unchecked-clause-first g c keys front rest are plain other ahead =
    let has = c.lines.invariant in
    let line = c.next_line.new.line.items in
    let not = c.if-not-is_unchecked.true in
    let none : ¬ (IsUnchecked line) =
    λ is. let truth = c.is_unchecked.ensures.1 (subst IsUnchecked (sym c.as_slice.ensures.value) is) in cc in
    let last = leads_last _ _ _ c.args.input.now.passed.bytes c.lines.input.passed.bytes _ line _ has.2
    c.in_ok-next_line.ensures.first none keys front rest are plain other ahead in
    (refl, last.0, last.1)
