use Rattle.bag_read.proofs.Common.{◌∙◌}
use Rattle.bag_read.proofs.ManifestName.{has_alg}
use Rattle.bag_read.proofs.manifest_name.is_manifest_name.Goals as goal

pub returns : goal.returns
returns c = c.is_some.ensures ∙ has_alg c.args.kind c.args.name.now c.manifest_alg.result c.manifest_alg.ensures.alg
