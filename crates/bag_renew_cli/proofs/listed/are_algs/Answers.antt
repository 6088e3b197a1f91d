use Rattle.std.proofs.Common.{lit<}
use Rattle.bag_renew_cli.proofs.Common.{rules, tests, is_some, all_from_yields_List}
use Rattle.std.proofs.lemmas.Iterator.Splits.{YieldsList-from_str_split}
use Rattle.bag_text.specs.Alg.{alg_named}
use Rattle.bag_renew_cli.proofs.listed.are_algs.Goals as goal

pub returns : goal.returns
returns c =
    all_from_yields_List (λ part. is_some (alg_named part)) _ _ c.all.result c.all.ensures.ran
    (YieldsList-from_str_split 44 c.args.text.now (lit< tt) c.split.ensures.text c.split.ensures.has_more
    c.split.ensures.pattern)
    (λ x b q k. search (rules, tests))
