use Rattle.bag_text.proofs.Common.{rules}
use Rattle.bag_text.proofs.label.same_label.Goals as goal

pub returns : goal.returns
returns c = search rules
