use Rattle.bag_tags.proofs.DeclarationReadAgain.{declaration_again}
use Rattle.bag_tags.proofs.laws.declaration_is_read_again.Goals as goal

pub returns : goal.returns
returns c = declaration_again
