use Rattle.bag_text.proofs.Common.{refl}
use Rattle.bag_text.proofs.path.PathFaultFromAllocError.from.Goals as goal

pub returns : goal.returns
returns c = refl
