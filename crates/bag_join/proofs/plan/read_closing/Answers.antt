use Rattle.std.proofs.Common.{Some, ap, ◌∙◌, subst, sym, None}
use Rattle.bag_reports.specs.DoneLine.{IsDoneLineOf}
use Rattle.bag_reports.proofs.FileLines.{are_lines}
use Rattle.bag_join.specs.Findings.{done_at, faults_at, keys_at}
use Rattle.bag_join.proofs.Findings.{after_none, few_at, file_lines, front_at, is_said, lines_at, part_after}
use Rattle.bag_join.proofs.Findings.{read_alike}
use Rattle.bag_join.proofs.Turns.{front_is_other}
use Rattle.bag_join.proofs.plan.read_closing.Goals as goal

pub returns-in-Err-clause-whole : goal.returns-in-Err-clause-whole
returns-in-Err-clause-whole g c findings k are inside honest there held =
    c.in-Err.ensures.last (lines_at findings k) (front_at findings k)
    (front_is_other findings k are inside).plain
    (are_lines None (keys_at findings k) (faults_at findings k) (are.keys k inside)
    (after_none _ _ (part_after findings k are inside)))
    (few_at findings k are inside) honest there (held ∙ ap (λ text. Some text) (file_lines findings k))

pub returns-in-Ok-clause-whole : goal.returns-in-Ok-clause-whole
returns-in-Ok-clause-whole g c findings k are inside honest there held =
    let last = c.in-Ok.ensures.last (lines_at findings k) (front_at findings k)
    (front_is_other findings k are inside).plain
    (are_lines None (keys_at findings k) (faults_at findings k) (are.keys k inside)
    (after_none _ _ (part_after findings k are inside)))
    (few_at findings k are inside) honest there (held ∙ ap (λ text. Some text) (file_lines findings k)) in
    let text = c.as_slice.ensures.value ∙ last in
    read_alike c.said_in.result (done_at findings k) _
    (c.said_in.ensures (done_at findings k)
    (subst (λ t. IsDoneLineOf t (done_at findings k)) (sym text) (is_said findings k are inside)))
