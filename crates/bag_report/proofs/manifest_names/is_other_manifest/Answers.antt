use Rattle.bag_report.proofs.Manifests.{other_by}
use Rattle.bag_report.proofs.manifest_names.is_other_manifest.Goals as goal

pub returns-in-Some : goal.returns-in-Some
returns-in-Some c =
    other_by c.args.kind c.args.path.now c.args.profile.now c.in-Some.alg.now c.allowed_list.result c.excludes.result
    c.in-Some.ensures.alg c.allowed_list.ensures c.excludes.ensures
