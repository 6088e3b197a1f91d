use Rattle.bag_text.proofs.Common.{same_rank}
use Rattle.bag_text.proofs.AlgSets.{name_is_read_again, names_tell_apart}
use Rattle.bag_text.proofs.laws.tells_algs_apart.Goals as goal

pub returns : goal.returns
returns c = record { again = name_is_read_again; by_name = names_tell_apart; by_rank = same_rank }
