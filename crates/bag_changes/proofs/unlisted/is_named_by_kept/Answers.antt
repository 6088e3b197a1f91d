use Rattle.std.proofs.Common.{rules, tests}
use Rattle.std.proofs.lemmas.Iterator.{YieldsList-from_slice}
use Rattle.std.proofs.lemmas.Iterator.Search.{any_from_yields_List}
use Rattle.bag_changes.proofs.Common.{algs}
use Rattle.bag_changes.specs.Obstacles.{is_named_by_kept, keeps_naming}
use Rattle.bag_changes.proofs.unlisted.is_named_by_kept.Goals as goal

pub returns : goal.returns
unfolding is_named_by_kept
returns c = λ bag facts deep renewal aim.
    any_from_yields_List (keeps_naming bag renewal c.args.path.now) _ _ c.any.result c.any.ensures.ran
    (YieldsList-from_slice algs cc) (λ x b q k. search (rules, tests))
