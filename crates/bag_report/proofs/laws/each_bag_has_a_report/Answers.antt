use Rattle.bag_report.proofs.EachReport.{each_bag_has_a_report}
use Rattle.bag_report.proofs.laws.each_bag_has_a_report.Goals as goal

pub returns : goal.returns
returns c = each_bag_has_a_report
