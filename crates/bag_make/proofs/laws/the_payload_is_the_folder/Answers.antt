use Rattle.bag_make.proofs.PayloadIsTheFolder.{payload_is}
use Rattle.bag_make.proofs.laws.the_payload_is_the_folder.Goals as goal

pub returns : goal.returns
returns c = payload_is
