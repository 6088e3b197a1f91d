use Rattle.bag_tree.proofs.Common.{◌<◌, length, rules, err_from_is_err_and}
use Rattle.bag_tree.proofs.Writing.{taken_more, cut_off}
use Rattle.bag_tree.proofs.putting.put_all.Goals as goal

pub returns-in_err-count : goal.returns-in_err-count
returns-in_err-count g c =
    let some : 0 < length c.loop-rest.rest.now = search rules in
    let p =
    err_from_is_err_and c.from_residual.result c.from_residual.ensures.1
    in rw p.1 (
      cut_off _ _ _ _ _ some c.loop-rest.invariant c.in_err-count.ensures.refused.0,
      c.in_err-count.ensures.refused.1,
    )

pub loop-rest-preserved : goal.loop-rest-preserved
loop-rest-preserved g c = rw c.split_at.ensures.back
    (taken_more _ _ _ _ _ c.in_ok-count.count c.loop-rest.invariant c.in_ok-count.ensures.took.appended)
