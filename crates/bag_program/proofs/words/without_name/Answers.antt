use Rattle.bag_program.proofs.Common.{length, ap, ◌∙◌, items_from_collect}
use Rattle.std.specs.Vec.Iter.{into_iter_items}
use Rattle.std.proofs.lemmas.Iterator.Adapters.{YieldsList-from_skip, YieldsList-from_vec}
use Rattle.bag_program.proofs.words.without_name.Goals as goal

pub returns : goal.returns
returns c =
    let same = ap into_iter_items c.skip.ensures.source in
    let all = YieldsList-from_vec (into_iter_items c.args.words) same (c.skip.result.iter.rest.ok.0 ∙ ap length same) in
    items_from_collect c.collect.result c.collect.ensures.ran (YieldsList-from_skip _ all c.skip.ensures.count)
