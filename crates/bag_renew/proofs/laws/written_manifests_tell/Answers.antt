use Rattle.bag_renew.proofs.WrittenTells.{written_manifests_tell}
use Rattle.bag_renew.proofs.laws.written_manifests_tell.Goals as goal

pub returns : goal.returns
returns c = written_manifests_tell
