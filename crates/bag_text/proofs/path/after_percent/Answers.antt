use Rattle.bag_text.proofs.LineEnds.{cut_off}
use Rattle.bag_text.proofs.path.after_percent.Goals as goal

pub returns-in_default-clause-value : goal.returns-in_default-clause-value
returns-in_default-clause-value c = cut_off c.args.after.now c.utf8.after (λ h.
    let e = c.in_default.ensures.variant.1 h in cc)
