use Rattle.bag_facts.proofs.Common.{arith}
use Rattle.bag_facts.proofs.TagsRead.{tag_read}
use Rattle.bag_facts.proofs.facts.Facts.tag.Goals as goal

pub returns : goal.returns
returns c = λ bag h. grind (arith, tag_read)
