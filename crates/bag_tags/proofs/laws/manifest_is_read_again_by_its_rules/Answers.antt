use Rattle.bag_tags.proofs.ManifestReadAgain.{manifest_again_by}
use Rattle.bag_tags.proofs.laws.manifest_is_read_again_by_its_rules.Goals as goal

pub returns : goal.returns
returns c = manifest_again_by
