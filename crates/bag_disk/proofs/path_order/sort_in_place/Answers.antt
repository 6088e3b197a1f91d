use Rattle.bag_disk.proofs.Common.{rules, is_lt, nat_list_cmp_total, answers_always, ranks_by, text_cmp}
use Rattle.bag_disk.proofs.path_order.sort_in_place.Goals as goal

pub returns-clause-sorted : goal.returns-clause-sorted
returns-clause-sorted c =
    c.sort_unstable_by.ensures.sorted (λ x y. is_lt (text_cmp x.path y.path))
    (ranks_by nat_list_cmp_total (λ file. file.path)) (answers_always _ _ _ (λ f a r g called. search rules))
