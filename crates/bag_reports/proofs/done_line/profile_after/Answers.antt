use Rattle.std.proofs.Common.{◌∙◌, List, ℕ, Some, ap, sym, subst}
use Rattle.bag_reports.specs.DoneLine.{IsSum, behind_comma}
use Rattle.bag_reports.proofs.Asked.{has_profile, sum_of, sum_parts}
use Rattle.bag_reports.proofs.done_line.profile_after.Goals as goal

pub returns-in_default-split_once-clause-reads : goal.returns-in_default-split_once-clause-reads
returns-in_default-split_once-clause-reads c sum n is cut =
    let has = has_profile sum n c.args.text.now c.in-Some.after.now (rw c.in-Some.is at c.strip_prefix.ensures.cases) cut in
    absurd (rw c.in_default-split_once.is at (sum_parts has.0 c.in-Some.after.now (behind_comma n) c.split_once.result
    c.split_once.ensures.cases (sum_of sum has.0 is has.1) has.2))

pub returns-then-is_sum-clause-reads : goal.returns-then-is_sum-clause-reads
returns-then-is_sum-clause-reads c sum n is cut =
    let has = has_profile sum n c.args.text.now c.in-Some.after.now (rw c.in-Some.is at c.strip_prefix.ensures.cases) cut in
    let parts = rw c.in-Some-split_once.is at (sum_parts has.0 c.in-Some.after.now (behind_comma n) c.split_once.result
    c.split_once.ensures.cases (sum_of sum has.0 is has.1) has.2) in
    (ap (λ (digits : List ℕ). Some digits) parts.0 ∙ sym has.1, parts.1)

pub returns-else-is_sum-clause-reads : goal.returns-else-is_sum-clause-reads
returns-else-is_sum-clause-reads c sum n is cut =
    let has = has_profile sum n c.args.text.now c.in-Some.after.now (rw c.in-Some.is at c.strip_prefix.ensures.cases) cut in
    let parts = rw c.in-Some-split_once.is at (sum_parts has.0 c.in-Some.after.now (behind_comma n) c.split_once.result
    c.split_once.ensures.cases (sum_of sum has.0 is has.1) has.2) in
    let truth = c.is_sum.ensures.1 (subst IsSum (sym parts.0) (sum_of sum has.0 is has.1)) in
    let not = c.if-is_sum.false in
    cc
