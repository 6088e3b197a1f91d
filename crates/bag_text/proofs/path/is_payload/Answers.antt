use Rattle.bag_text.proofs.Common.{arith, common_steps}
use Rattle.bag_text.proofs.path.is_payload.Goals as goal

pub returns-then-eq : goal.returns-then-eq
returns-then-eq c = grind (arith, common_steps)

pub returns-else-eq : goal.returns-else-eq
returns-else-eq c = grind (arith, common_steps)
