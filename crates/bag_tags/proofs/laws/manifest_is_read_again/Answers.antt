use Rattle.bag_tags.proofs.ManifestReadAgain.{manifest_again}
use Rattle.bag_tags.proofs.laws.manifest_is_read_again.Goals as goal

pub returns : goal.returns
returns c = manifest_again
