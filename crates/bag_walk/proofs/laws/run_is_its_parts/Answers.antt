use Rattle.bag_walk.proofs.PartsOfRun.{run_is_its_parts}
use Rattle.bag_walk.proofs.laws.run_is_its_parts.Goals as goal

pub returns : goal.returns
returns c = run_is_its_parts
