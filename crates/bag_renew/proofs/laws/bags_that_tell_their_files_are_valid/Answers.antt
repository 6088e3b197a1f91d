use Rattle.bag_renew.proofs.Telling.{they_are_valid}
use Rattle.bag_renew.proofs.laws.bags_that_tell_their_files_are_valid.Goals as goal

pub returns : goal.returns
returns c = they_are_valid
