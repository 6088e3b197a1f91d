use Rattle.bag_report.proofs.Conforming.{IsOfProfile}
use Rattle.std.proofs.lemmas.List.Filters.{dedup_is}
use Rattle.bag_report.proofs.EachOnce.{sorted_listed}
use Rattle.bag_report.proofs.conformance.conformance_faults.Goals as goal

pub returns : goal.returns
returns c = λ bag facts deep.
    rw (dedup_is _ _ _ c.dedup.ensures.filtered)
    (sorted_listed (IsOfProfile bag c.args.profile.now) c.in_ok-faults.faults.items c.sort.new.self.items
    (c.in_ok-faults.ensures bag facts deep)
    c.sort.ensures.permutation c.in_ok-sort.ensures.sorted)
