use Rattle.bag_text.proofs.Common.{arith, common_steps}
use Rattle.bag_text.proofs.Spellings.{cut_escape}
use Rattle.bag_text.proofs.path.escaped_char.Goals as goal

pub returns-in_default-clause-value : goal.returns-in_default-clause-value
returns-in_default-clause-value c = cut_escape c.args.after.now c.utf8.after (λ h.
    let e = c.in_default.ensures.variant.1 h in cc)

pub returns-then-eq-clause-value : goal.returns-then-eq-clause-value
returns-then-eq-clause-value c = grind (arith, common_steps)
