use Rattle.bag_report.proofs.Conforming.{sym, ◌∙◌}
use Rattle.bag_report.proofs.Manifests.{has_by}
use Rattle.bag_report.proofs.manifest_names.has_manifest.Goals as goal

pub returns-then-is_some : goal.returns-then-is_some
returns-then-is_some c = λ bag facts name at.
    has_by c.args.kind c.args.path.now bag name c.manifest_alg.result c.has_file.result at c.manifest_alg.ensures.alg
    c.if-is_some.ensures
    (λ is. sym (c.has_file.ensures bag facts) ∙ is, λ is. c.has_file.ensures bag facts ∙ is)
