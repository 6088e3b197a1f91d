use Rattle.bag_tags.proofs.Common.{lit<}
use Rattle.std.proofs.Common.{rules}
use Rattle.std.proofs.lemmas.Iterator.Search.{any_from_yields_List}
use Rattle.std.proofs.lemmas.Iterator.Splits.{YieldsList-from_str_split}
use Rattle.bag_tags.specs.Element as bad
use Rattle.bag_tags.proofs.long_info.has_bad_line.Goals as goal

pub returns : goal.returns
returns c =
    any_from_yields_List bad.is_bad_value _ _ _ c.any.ensures.ran
    (YieldsList-from_str_split 10 c.args.value.now (lit< tt) c.split.ensures.text c.split.ensures.has_more c.split.ensures.pattern)
    (λ x b q k. search rules)
