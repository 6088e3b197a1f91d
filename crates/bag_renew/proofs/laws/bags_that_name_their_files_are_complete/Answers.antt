use Rattle.bag_renew.proofs.Telling.{they_are_complete}
use Rattle.bag_renew.proofs.laws.bags_that_name_their_files_are_complete.Goals as goal

pub returns : goal.returns
returns c = they_are_complete
