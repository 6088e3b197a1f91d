use Rattle.bag_walk.proofs.SegmentSums.{answers_report_unread}
use Rattle.bag_walk.proofs.laws.answers_report_unread.Goals as goal

pub returns : goal.returns
returns c = answers_report_unread
