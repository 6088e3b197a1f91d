use Rattle.bag_stages.proofs.NamesByKind.{names_by_kind}
use Rattle.bag_stages.proofs.laws.names_by_kind.Goals as goal

pub returns : goal.returns
returns c = names_by_kind
