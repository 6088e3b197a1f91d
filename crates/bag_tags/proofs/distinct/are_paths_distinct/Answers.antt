use Rattle.bag_tags.proofs.Common.{subst, sym, bytes_eq, ◌↔◌, IsTrue, IsDistinct, TextsAscend}
use Rattle.bag_tags.proofs.DistinctPaths.{distinct_by_order}
use Rattle.bag_tags.proofs.distinct.are_paths_distinct.Goals as goal

pub returns : goal.returns
returns c =
    let paths = c.in_ok-paths.paths.items in
    let sorted = c.sort_unstable.new.self.items in
    let by_order = distinct_by_order paths sorted c.sort_unstable.ensures.permutation c.sort_unstable.ensures.sorted in
    let told : IsTrue c.is_ascending.result ↔ TextsAscend sorted =
    rw c.as_slice.ensures.value at c.is_ascending.ensures in (
      λ t. subst (IsDistinct bytes_eq) c.in_ok-paths.ensures (by_order.0 (told.0 t)),
      λ n.
          told.1 (by_order.1 (subst (IsDistinct bytes_eq) (sym c.in_ok-paths.ensures) n)),
    )
