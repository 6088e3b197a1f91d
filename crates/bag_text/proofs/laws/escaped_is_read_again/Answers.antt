use Rattle.bag_text.proofs.SpellingLaws.{read_again}
use Rattle.bag_text.proofs.laws.escaped_is_read_again.Goals as goal

pub returns : goal.returns
returns c = read_again
