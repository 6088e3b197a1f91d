use Rattle.bag_memory.proofs.Counting.{one_call_is_refused}
use Rattle.bag_memory.proofs.laws.one_call_is_refused.Goals as goal

pub returns : goal.returns
returns c = one_call_is_refused
