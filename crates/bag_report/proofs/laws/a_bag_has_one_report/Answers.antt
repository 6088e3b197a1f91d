use Rattle.bag_report.proofs.Common.{one_list, fault_cmp_total, fault_cmp, IsReported}
use Rattle.bag_report.proofs.laws.a_bag_has_one_report.Goals as goal

pub returns : goal.returns
returns c check one other p q = one_list fault_cmp fault_cmp_total (IsReported check) one other p q
