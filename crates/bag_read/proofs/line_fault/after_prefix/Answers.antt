use Rattle.bag_read.proofs.Texts.{strip_is_after}
use Rattle.bag_read.proofs.line_fault.after_prefix.Goals as goal

pub returns : goal.returns
returns c = strip_is_after _ _ c.strip_prefix.result c.strip_prefix.ensures.cases
