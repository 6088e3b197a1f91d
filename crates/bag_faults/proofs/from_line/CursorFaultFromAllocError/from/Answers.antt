use Rattle.bag_faults.proofs.Common.{refl}
use Rattle.bag_faults.proofs.from_line.CursorFaultFromAllocError.from.Goals as goal

pub returns : goal.returns
returns c = refl
