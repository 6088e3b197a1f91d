use Rattle.bag_text.proofs.LineLaws.{only_cut}
use Rattle.bag_text.proofs.laws.lines_are_the_only_cut.Goals as goal

pub returns : goal.returns
returns c = only_cut
