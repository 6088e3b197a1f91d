use Rattle.std.proofs.lemmas.List.Filters.{dedup_is}
use Rattle.bag_stages.proofs.PayloadNames.{sorted_listed}
use Rattle.bag_stages.proofs.names.in_order.Goals as goal

pub returns : goal.returns
returns c =
    rw (dedup_is _ _ _ c.dedup.ensures.filtered)
    (sorted_listed c.args.names.items c.sort.new.self.items c.in_ok-sort.ensures.permutation
    c.in_ok-sort.ensures.sorted)
