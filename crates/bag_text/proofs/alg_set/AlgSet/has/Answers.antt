use Rattle.bag_text.proofs.Common.{flag_of}
use Rattle.bag_text.proofs.AlgSets.{Contains-filter}
use Rattle.bag_text.proofs.alg_set.AlgSet.has.Goals as goal

pub returns : goal.returns
returns c =
    let is =
    Contains-filter (flag_of c.self.inside) c.args.alg
    in rw (c.flag_index.ensures.value, ← c.self.view_is) (is.1, is.0)
