use Rattle.bag_make.proofs.StepsMake.{steps_make}
use Rattle.bag_make.proofs.laws.all_steps_make_the_bag.Goals as goal

pub returns : goal.returns
returns c = steps_make
