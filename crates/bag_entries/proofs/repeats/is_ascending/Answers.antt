use Rattle.bag_entries.proofs.Common.{rules}
use Rattle.bag_entries.proofs.RepeatedLines.{path_lt, paths_by_neighbours}
use Rattle.std.proofs.lemmas.List.Sorted.{answers_always}
use Rattle.bag_entries.proofs.repeats.is_ascending.Goals as goal

pub returns : goal.returns
returns c =
    paths_by_neighbours c.args.entries.now c.is_sorted_by.result
    (c.is_sorted_by.ensures.cases path_lt (answers_always _ _ _ (λ f a r g called. search rules)))
