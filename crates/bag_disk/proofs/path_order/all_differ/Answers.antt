use Rattle.bag_disk.proofs.Common.{rules, not, nat_eq, pointwise, answers_always}
use Rattle.bag_disk.proofs.PathOrder.{sorted_and_differ}
use Rattle.bag_disk.proofs.path_order.all_differ.Goals as goal

pub returns : goal.returns
returns c =
    sorted_and_differ c.args.files.now c.is_sorted_by.result c.requires
    (c.is_sorted_by.ensures.cases (λ x y. not (pointwise nat_eq x.path y.path))
    (answers_always _ _ _ (λ f a r g called. search rules)))
