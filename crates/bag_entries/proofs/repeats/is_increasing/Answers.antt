use Rattle.bag_entries.proofs.Common.{rules, nat_lt}
use Rattle.bag_entries.proofs.RepeatedLines.{numbers_by_neighbours}
use Rattle.std.proofs.lemmas.List.Sorted.{answers_always}
use Rattle.bag_entries.proofs.repeats.is_increasing.Goals as goal

pub returns : goal.returns
returns c =
    numbers_by_neighbours c.args.numbers.now c.is_sorted_by.result
    (c.is_sorted_by.ensures.cases nat_lt (answers_always _ _ _ (λ f a r g called. search rules)))
