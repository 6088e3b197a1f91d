use Rattle.bag_text.proofs.AlgSets.{no_flag}
use Rattle.bag_text.proofs.alg_set.AlgSet.is_empty.Goals as goal

pub returns : goal.returns
returns c = rw (c.contains.ensures.value, ← c.self.view_is) (no_flag c.self.inside c.self.invariant)
