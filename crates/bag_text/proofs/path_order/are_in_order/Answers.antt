use Rattle.bag_text.proofs.Common.{rules, is_le, answers_always, text_cmp}
use Rattle.bag_text.proofs.PathOrder.{sorted_by_neighbours}
use Rattle.bag_text.proofs.path_order.are_in_order.Goals as goal

pub returns : goal.returns
returns g c =
    sorted_by_neighbours g.T.HasPath.path_of c.args.items.now c.is_sorted_by.result
    (c.is_sorted_by.ensures.cases (λ x y. is_le (text_cmp (g.T.HasPath.path_of x) (g.T.HasPath.path_of y)))
    (answers_always _ _ _ (λ f a r i called. search rules)))
