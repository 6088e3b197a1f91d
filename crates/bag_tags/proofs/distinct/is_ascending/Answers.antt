use Rattle.std.proofs.Common.{rules}
use Rattle.bag_tags.proofs.DistinctPaths.{ascend_by_neighbours, lent_lt}
use Rattle.std.proofs.lemmas.List.Sorted.{answers_always}
use Rattle.bag_tags.proofs.distinct.is_ascending.Goals as goal

pub returns : goal.returns
returns c =
    ascend_by_neighbours c.args.texts.now c.is_sorted_by.result
    (c.is_sorted_by.ensures.cases lent_lt (answers_always _ _ _ (λ f a r g called. search rules)))
