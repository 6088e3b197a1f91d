use Rattle.bag_text.proofs.Common.{rules, is_lt, nat_list_cmp_total, IsPermutation-trans, answers_always, ranks_by}
use Rattle.bag_text.proofs.Common.{text_cmp}
use Rattle.bag_text.proofs.path_order.sort_by_path.Goals as goal

pub returns : goal.returns
returns g c = record {
  sorted =
      c.sort_unstable_by.ensures.sorted (λ x y. is_lt (text_cmp (g.T.HasPath.path_of x) (g.T.HasPath.path_of y)))
      (ranks_by nat_list_cmp_total g.T.HasPath.path_of) (answers_always _ _ _ (λ f a r i called. search rules));
  permutation = IsPermutation-trans _ _ _ c.in_ok-arrange.ensures c.sort_unstable_by.ensures.permutation;
}
