use Rattle.bag_text.proofs.Common.{◌∙◌, arith, common_steps, is_blank}
use Rattle.bag_text.proofs.FirstByte.{first_len}
use Rattle.bag_text.proofs.blank.before_blank.Goals as goal

pub returns-clause-count : goal.returns-clause-count
returns-clause-count c = c.unwrap_or.ensures
    ∙ first_len is_blank c.args.bytes.now c.first_of_two.result c.first_of_two.ensures

pub returns-clause-within : goal.returns-clause-within
returns-clause-within c = grind (arith, common_steps)
