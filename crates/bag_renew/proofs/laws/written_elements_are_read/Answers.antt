use Rattle.bag_renew.proofs.RenewedAlike.{written_are_read}
use Rattle.bag_renew.proofs.laws.written_elements_are_read.Goals as goal

pub returns : goal.returns
returns c = written_are_read
