use Rattle.bag_cli.proofs.Common.{arith}
use Rattle.bag_cli.proofs.Asked.{part_is_no_zero}
use Rattle.bag_cli.proofs.laws.no_part_ends_with_zero.Goals as goal

pub returns : goal.returns
returns c plan profile tree_of name names before after visits n some checks = grind (arith, part_is_no_zero)
