use Rattle.std.proofs.Common.{◌≡◌, ◌≢◌, ◌++◌, ◌∷◌, [], arith, refl, codes}
use Rattle.std.proofs.lemmas.Grind.{common_steps}
use Rattle.bag_reports.proofs.Ends.{no_end_more, read_first, read_last, read_nothing, read_something}
use Rattle.bag_reports.proofs.OneReport.{reads_more}
use Rattle.bag_reports.proofs.input.Input.next_line.Goals as goal

pub returns-in_default-clause-first : goal.returns-in_default-clause-first
returns-in_default-clause-first g c front rest plain holds =
    let has = c.bytes.invariant in
    let told = rw c.in_default.is at c.in_ok-byte.ensures.next in
    let passed : c.next_byte.new.self.passed.bytes ≡ c.args.self.now.passed.bytes ++ (c.bytes.line.items ++ []) =
    grind (arith, common_steps) in
    absurd (read_last _ _ _ _ c.bytes.line.items front rest
    (reads_more _ _ _ has.0 c.in_ok-byte.ensures.reads) (rw (← told.0) at told.1) passed has.2 holds)

pub returns-in_default-clause-none : goal.returns-in_default-clause-none
returns-in_default-clause-none g c holds =
    let has = c.bytes.invariant in
    let told = rw c.in_default.is at c.in_ok-byte.ensures.next in
    let passed : c.next_byte.new.self.passed.bytes ≡ c.args.self.now.passed.bytes ++ (c.bytes.line.items ++ []) =
    grind (arith, common_steps) in (
      refl,
      read_nothing _ _ _ _ c.bytes.line.items
          (reads_more _ _ _ has.0 c.in_ok-byte.ensures.reads) (rw (← told.0) at told.1) passed holds,
    )

pub returns-then-byte-eq-LINE_FEED-clause-first : goal.returns-then-byte-eq-LINE_FEED-clause-first
returns-then-byte-eq-LINE_FEED-clause-first g c front rest plain holds =
    let has = c.bytes.invariant in
    let told = rw c.in-Some.is at c.in_ok-byte.ensures.next in
    let byte = c.if-byte-eq-LINE_FEED.true in
    let passed : c.next_byte.new.self.passed.bytes
    ≡ c.args.self.now.passed.bytes ++ (c.bytes.line.items ++ codes "\n") =
    grind (arith, common_steps) in
    let parts = read_first _ _ _ _ _ c.bytes.line.items front rest _ _
    (reads_more _ _ _ has.0 c.in_ok-byte.ensures.reads) c.next_byte.new.self.ahead passed has.2 plain holds in
    (refl, parts.0, parts.1)

pub returns-then-byte-eq-LINE_FEED-clause-none : goal.returns-then-byte-eq-LINE_FEED-clause-none
returns-then-byte-eq-LINE_FEED-clause-none g c holds =
    let has = c.bytes.invariant in
    let told = rw c.in-Some.is at c.in_ok-byte.ensures.next in
    let passed : c.next_byte.new.self.passed.bytes
    ≡ c.args.self.now.passed.bytes ++ (c.bytes.line.items ++ c.in-Some.byte ∷ []) =
    grind (arith, common_steps) in
    absurd (read_something _ _ _ _ _ c.bytes.line.items _ _ c.in-Some.byte
    (reads_more _ _ _ has.0 c.in_ok-byte.ensures.reads) c.next_byte.new.self.ahead passed holds)

pub bytes-preserved : goal.bytes-preserved
bytes-preserved g c =
    let has = c.bytes.invariant in
    let told = rw c.in-Some.is at c.in_ok-byte.ensures.next in
    let grown : c.push.new.self.items ≡ c.bytes.line.items ++ c.in-Some.byte ∷ [] = grind (arith, common_steps) in
    let other : c.in-Some.byte ≢ 10 = grind (arith, common_steps) in (
      reads_more _ _ _ has.0 c.in_ok-byte.ensures.reads,
      grind (arith, common_steps),
      no_end_more c.bytes.line.items c.push.new.self.items c.in-Some.byte has.2 other grown,
    )
