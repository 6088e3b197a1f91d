use Rattle.bag_renew.proofs.ChangesRenew.{payload_stays}
use Rattle.bag_renew.proofs.SamePayload.{payload_list_stays}
use Rattle.bag_renew.proofs.laws.the_payload_stays.Goals as goal

pub returns-clause-files : goal.returns-clause-files
returns-clause-files c = payload_stays

pub returns-clause-payload : goal.returns-clause-payload
returns-clause-payload c = payload_list_stays
