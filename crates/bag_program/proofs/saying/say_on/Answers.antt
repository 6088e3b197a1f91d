use Rattle.bag_program.proofs.Common.{arith}
use Rattle.bag_program.proofs.saying.say_on.Goals as goal

pub returns : goal.returns
returns g c = grind arith
