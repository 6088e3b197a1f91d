use Rattle.bag_text.proofs.Common.{arith}
use Rattle.bag_text.proofs.SortKeys.{whole}
use Rattle.bag_text.proofs.sort_key.key_after.Goals as goal

pub returns-in-Some : goal.returns-in-Some
returns-in-Some c = grind (arith, whole)

pub returns-in-None : goal.returns-in-None
returns-in-None c = grind arith
