use Rattle.bag_text.proofs.Common.{arith, nat_tests, common_steps}
use Rattle.bag_text.proofs.Spellings.{escape-encode}
use Rattle.bag_text.proofs.path.escape_of.Goals as goal

pub returns-in_default : goal.returns-in_default
returns-in_default c = escape-encode c.args.c (grind (arith, nat_tests))

pub returns-in-10 : goal.returns-in-10
returns-in-10 c = grind (arith, common_steps)
