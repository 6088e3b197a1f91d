use Rattle.bag_text.proofs.LineEnds.{spellings}
use Rattle.bag_text.proofs.laws.unescaped_is_spelled.Goals as goal

pub returns : goal.returns
returns c = spellings
