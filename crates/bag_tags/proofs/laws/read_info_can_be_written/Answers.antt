use Rattle.bag_tags.proofs.ReadInfo.{read_can_be_written}
use Rattle.bag_tags.proofs.laws.read_info_can_be_written.Goals as goal

pub returns : goal.returns
returns c = read_can_be_written
