use Rattle.bag_text.proofs.Common.{arith, common_steps}
use Rattle.bag_text.proofs.Utf8.{utf8_texts}
use Rattle.bag_text.proofs.read_text.text_of.Goals as goal

pub returns-in-Ok-clause-text : goal.returns-in-Ok-clause-text
returns-in-Ok-clause-text c = grind (arith, common_steps, utf8_texts)
