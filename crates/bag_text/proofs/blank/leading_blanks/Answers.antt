use Rattle.bag_text.proofs.Common.{arith, common_steps}
use Rattle.bag_text.proofs.blank.leading_blanks.Goals as goal

pub returns-clause-within : goal.returns-clause-within
returns-clause-within c = grind (arith, common_steps)
