use Rattle.bag_text.proofs.Common.{refl}
use Rattle.bag_text.proofs.AlgSets.{each_is_listed, list_ascends}
use Rattle.bag_text.proofs.laws.lists_all_algs.Goals as goal

pub returns : goal.returns
returns c = record { value = refl; each = each_is_listed; ascending = list_ascends }
