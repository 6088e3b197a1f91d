use Rattle.bag_make.proofs.Common.{declaration_again, info_again, manifest_again}
use Rattle.bag_make.proofs.NoFault.{made_is_valid}
use Rattle.bag_make.proofs.laws.a_made_bag_has_no_fault.Goals as goal

pub returns : goal.returns
returns c = made_is_valid declaration_again info_again manifest_again
