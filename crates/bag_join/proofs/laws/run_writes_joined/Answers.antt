use Rattle.bag_join.proofs.PartsOfBag.{run_writes_joined}
use Rattle.bag_join.proofs.laws.run_writes_joined.Goals as goal

pub returns : goal.returns
returns c = run_writes_joined
