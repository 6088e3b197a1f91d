use Rattle.bag_sources.proofs.Common.{arith}
use Rattle.bag_sources.proofs.Merging.{both_filled, known_at, left_equal, left_greater, left_less, some_at}
use Rattle.bag_sources.proofs.merge.MergeSource.advance.Goals as goal

pub returns-in-Less-clause-rest : goal.returns-in-Less-clause-rest
returns-in-Less-clause-rest g c = λ bag h. grind (arith, both_filled, left_less, known_at)

pub returns-in-Greater-clause-rest : goal.returns-in-Greater-clause-rest
returns-in-Greater-clause-rest g c = λ bag h. grind (arith, both_filled, left_greater, known_at)

pub returns-in-Equal-clause-rest : goal.returns-in-Equal-clause-rest
returns-in-Equal-clause-rest g c = λ bag h. grind (arith, both_filled, left_equal, known_at, some_at)
