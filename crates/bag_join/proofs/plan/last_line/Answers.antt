use Rattle.std.proofs.Common.{◌≡◌, ◌++◌, true, false, arith, codes}
use Rattle.std.proofs.lemmas.Grind.{common_steps}
use Rattle.bag_reports.proofs.LastLine.{nears_end, nears_more}
use Rattle.bag_reports.proofs.OneReport.{reads_more}
use Rattle.bag_join.proofs.plan.last_line.Goals as goal

pub lines-preserved : goal.lines-preserved
lines-preserved g c =
    let has = c.lines.invariant in
    let said = c.in_ok-next_line.ensures in
    let truth : c.in_ok-next_line.field-0 ≡ true = grind (arith, common_steps) in
    let ended : c.swap.new.y.items ≡ c.next_line.new.line.items ++ codes "\n" = grind (arith, common_steps) in (
      reads_more _ _ _ has.0 said.reads,
      nears_more _ _ _ c.open.new.self.passed.bytes c.lines.input.passed.bytes _ _ c.swap.new.y.items c.lines.last.items
          c.lines.counter _ truth has.1 said.first said.none ended,
    )

pub returns-then-is_empty-clause-last : goal.returns-then-is_empty-clause-last
returns-then-is_empty-clause-last g c lines front plain are few honest there held =
    let said = c.in_ok-next_line.ensures in
    let falsity : c.in_ok-next_line.field-0 ≡ false = grind (arith, common_steps) in
    let opened = c.in_ok-open.ensures.ahead _ honest held in
    let ends = nears_end _ _ _ c.open.new.self.passed.bytes c.lines.input.passed.bytes _ _ c.lines.last.items
    c.lines.counter _ falsity c.lines.invariant.1 said.first said.none lines front plain are opened in
    ends.1

pub returns-then-not-branch-clause-last : goal.returns-then-not-branch-clause-last
returns-then-not-branch-clause-last g c lines front plain are few honest there held =
    let said = c.in_ok-next_line.ensures in
    let falsity : c.in_ok-next_line.field-0 ≡ false = grind (arith, common_steps) in
    let opened = c.in_ok-open.ensures.ahead _ honest held in
    let ends = nears_end _ _ _ c.open.new.self.passed.bytes c.lines.input.passed.bytes _ _ c.lines.last.items
    c.lines.counter _ falsity c.lines.invariant.1 said.first said.none lines front plain are opened in
    let empty = ends.0 in
    let not = c.if-is_empty.false in
    grind (arith, common_steps)
