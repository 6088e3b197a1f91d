use Rattle.std.proofs.Common.{◌==◌, rules, tests}
use Rattle.std.proofs.lemmas.Iterator.Search.{all_from_yields_List}
use Rattle.std.proofs.lemmas.Iterator.Splits.{YieldsList-from_slice_split}
use Rattle.bag_text.specs.Path as spec
use Rattle.test_nodes.proofs.placing.is_path.Goals as goal

pub returns : goal.returns
returns c =
    all_from_yields_List spec.is_component _ _ c.all.result c.all.ensures.ran
    (YieldsList-from_slice_split _ (λ b. b == spec.slash) c.args.path.now c.split.ensures.rest c.split.ensures.done
    c.split.ensures.closure (λ x b q k. search (rules, tests)))
    (λ x b q k. search (rules, tests))
