use Rattle.bag_report.proofs.Conforming.{YieldsList-from_slice}
use Rattle.std.proofs.lemmas.Iterator.Consumers.{map_from_collect}
use Rattle.bag_report.proofs.by_label.lent.Goals as goal

pub returns : goal.returns
returns c = map_from_collect _ c.collect.ensures.ran (YieldsList-from_slice c.args.elements.now c.iter.ensures.rest)
