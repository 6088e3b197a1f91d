use Rattle.bag_text.proofs.Paths.{joined_components}
use Rattle.bag_text.proofs.laws.paths_are_joined_components.Goals as goal

pub returns : goal.returns
returns c = joined_components
