use Rattle.bag_text.proofs.Common.{arith}
use Rattle.bag_text.proofs.SortKeys.{alike_all}
use Rattle.bag_text.proofs.sort_key.common_front.Goals as goal

pub returns : goal.returns
returns c = grind (arith, alike_all)
