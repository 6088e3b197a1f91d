use Rattle.bag_make.proofs.PathOrder.{manifests_ascend}
use Rattle.bag_make.proofs.laws.manifests_ascend.Goals as goal

pub returns : goal.returns
returns c = manifests_ascend
