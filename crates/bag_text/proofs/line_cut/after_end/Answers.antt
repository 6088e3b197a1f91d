use Rattle.bag_text.proofs.Common.{arith, common_steps}
use Rattle.bag_text.proofs.line_cut.after_end.Goals as goal

pub returns-then-eq-clause-value : goal.returns-then-eq-clause-value
returns-then-eq-clause-value c = grind (arith, common_steps)
