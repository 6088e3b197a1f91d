use Rattle.bag_changes.proofs.Common.{ap, Some, ◌∙◌}
use Rattle.bag_changes.proofs.Obstructed.{first_where}
use Rattle.bag_changes.specs.Obstacles.{is_other_tag_manifest}
use Rattle.bag_changes.proofs.obstacles.outdated_path.Goals as goal

pub returns-in_ok-copy-in-Some : goal.returns-in_ok-copy-in-Some
returns-in_ok-copy-in-Some c = λ bag of.
    ap Some c.in_ok-copy-in-Some.ensures
    ∙ first_where bag c.args.facts.now of is_other_tag_manifest c.files.result.now _ c.files.ensures c.in-Some.ensures

pub returns-in-None : goal.returns-in-None
returns-in-None c = λ bag of.
    first_where bag c.args.facts.now of is_other_tag_manifest c.files.result.now _ c.files.ensures c.in-None.ensures
