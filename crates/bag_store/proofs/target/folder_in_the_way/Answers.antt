use Rattle.bag_store.proofs.Common.{arith}
use Rattle.bag_store.proofs.BagSteps.{listed_within}
use Rattle.bag_store.proofs.target.folder_in_the_way.Goals as goal

pub returns-then-has_within-clause-refused : goal.returns-then-has_within-clause-refused
returns-then-has_within-clause-refused g c = λ honest. grind (arith, listed_within)
