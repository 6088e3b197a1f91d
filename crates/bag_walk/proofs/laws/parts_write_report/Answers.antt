use Rattle.bag_walk.proofs.PartLines.{parts_write_report}
use Rattle.bag_walk.proofs.laws.parts_write_report.Goals as goal

pub returns : goal.returns
returns c = parts_write_report
