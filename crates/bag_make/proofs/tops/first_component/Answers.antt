use Rattle.bag_make.proofs.Common.{lit<, Some, arith}
use Rattle.std.proofs.lemmas.Str.Pattern.{split_once_first}
use Rattle.bag_make.proofs.FirstParts.{whole}
use Rattle.bag_make.proofs.tops.first_component.Goals as goal

pub returns-in_default : goal.returns-in_default
returns-in_default c = grind (arith, split_once_first, lit<, whole)

pub returns : goal.returns
returns c =
    (split_once_first 47 c.args.path.now (Some (c.in-Some.first, c.in-Some.field-0-1)) c.in-Some.ensures.cases
    (lit< tt)).1
