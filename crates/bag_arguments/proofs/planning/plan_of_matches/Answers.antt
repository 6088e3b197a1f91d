use Rattle.bag_arguments.proofs.Common.{arith}
use Rattle.bag_arguments.proofs.Answering.{misuse_answered, part_answered}
use Rattle.bag_arguments.proofs.planning.plan_of_matches.Goals as goal

pub returns-in_err-refuse_misuse : goal.returns-in_err-refuse_misuse
returns-in_err-refuse_misuse c = grind (arith, misuse_answered)

pub returns-in_err-part : goal.returns-in_err-part
returns-in_err-part c = grind (arith, part_answered)
