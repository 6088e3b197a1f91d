use Rattle.bag_tags.proofs.InfoReadAgain.{info_again_by}
use Rattle.bag_tags.proofs.LongInfo.{long_info_again_by}
use Rattle.bag_tags.proofs.laws.info_is_read_again_by_either_version.Goals as goal

pub returns : goal.returns
returns c = record {
  info = info_again_by;
  long_info = long_info_again_by;
}
