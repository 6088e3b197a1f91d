use Rattle.bag_read.proofs.Common.{rules, checked_digest, line_by_spelling, without_marks}
use Rattle.bag_read.proofs.ManifestLine.{line_by_parts}
use Rattle.bag_read.proofs.Reason.{read_on}
use Rattle.bag_read.proofs.manifest.ManifestForm.line.Goals as goal

pub returns : goal.returns
returns c =
    let form = c.args.self.now in
    let parts = c.split_at_blanks in
    line_by_parts form.rules form.kind form.alg c.args.line.now _ _ parts.ensures.front parts.ensures.back
    c.named.result
    (read_on (checked_digest form.alg parts.result.0.now parts.result.1.now) c.in_ok-digest.digest
    (λ digest. line_by_spelling form.rules form.kind digest (without_marks parts.result.1.now)) c.named.result
    c.in_ok-digest.ensures (rw c.without_marks.ensures at c.named.ensures))

pub returns-in_err-digest : goal.returns-in_err-digest
returns-in_err-digest c =
    let form = c.args.self.now in
    let parts = c.split_at_blanks in
    line_by_parts form.rules form.kind form.alg c.args.line.now _ _ parts.ensures.front parts.ensures.back
    c.from_residual.result (search rules)
