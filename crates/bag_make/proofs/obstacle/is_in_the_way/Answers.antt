use Rattle.bag_make.proofs.Common.{arith}
use Rattle.bag_make.proofs.OfTheBag.{has_new_is}
use Rattle.bag_make.proofs.obstacle.is_in_the_way.Goals as goal

pub returns-clause-of_bag : goal.returns-clause-of_bag
returns-clause-of_bag c = λ bag ordered listed. grind (arith, has_new_is)
