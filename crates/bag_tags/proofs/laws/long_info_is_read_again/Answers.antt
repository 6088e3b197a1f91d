use Rattle.bag_tags.proofs.LongInfo.{long_info_again}
use Rattle.bag_tags.proofs.laws.long_info_is_read_again.Goals as goal

pub returns : goal.returns
returns c = long_info_again
