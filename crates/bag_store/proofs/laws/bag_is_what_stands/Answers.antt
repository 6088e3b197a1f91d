use Rattle.bag_store.proofs.Common.{bag_is_what_stands}
use Rattle.bag_store.proofs.laws.bag_is_what_stands.Goals as goal

pub returns : goal.returns
returns c = bag_is_what_stands
