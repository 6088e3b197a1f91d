use Rattle.bag_join.proofs.LawsHold.{parts_of_report_join}
use Rattle.bag_join.proofs.laws.parts_of_report_join.Goals as goal

pub returns : goal.returns
returns c = parts_of_report_join
