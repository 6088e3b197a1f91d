use Rattle.std.proofs.Common.{lit<}
use Rattle.bag_renew_cli.proofs.Common.{rules, tests, bytes_eq, name, any_from_yields_List}
use Rattle.std.proofs.lemmas.Iterator.Splits.{YieldsList-from_str_split}
use Rattle.bag_renew_cli.proofs.listed.has_alg.Goals as goal

pub returns : goal.returns
returns c =
    any_from_yields_List (bytes_eq (name c.args.alg)) _ _ c.any.result c.any.ensures.ran
    (YieldsList-from_str_split 44 c.args.text.now (lit< tt) c.split.ensures.text c.split.ensures.has_more
    c.split.ensures.pattern)
    (λ x b q k. search (rules, tests))
