use Rattle.bag_reports.proofs.KeyLines.{fields_are_keys}
use Rattle.bag_join.proofs.laws.fields_are_keys.Goals as goal

pub returns : goal.returns
returns c = fields_are_keys
