use Rattle.bag_tags.proofs.InfoReadAgain.{info_again}
use Rattle.bag_tags.proofs.laws.info_is_read_again.Goals as goal

pub returns : goal.returns
returns c = info_again
