use Rattle.bag_stages.proofs.Common.{arith}
use Rattle.bag_stages.proofs.PathFaults.{none_unnamed}
use Rattle.bag_stages.proofs.left_out.named_by_none.Goals as goal

pub returns-then-is_some_exact : goal.returns-then-is_some_exact
returns-then-is_some_exact c = λ bag facts deep. grind (arith, none_unnamed)
