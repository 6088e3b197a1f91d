use Rattle.bag_tags.proofs.SpelledPaths.{no_spelling, spelled_again}
use Rattle.bag_tags.proofs.laws.spelled_paths_are_read_again.Goals as goal

pub returns : goal.returns
returns c = record {
  spelled = spelled_again;
  unspelled = no_spelling;
}
