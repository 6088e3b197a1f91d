use Rattle.bag_changes.proofs.Common.{ap, Some, ◌∙◌}
use Rattle.bag_changes.proofs.Obstructed.{first_is}
use Rattle.bag_changes.proofs.obstacles.unnameable_path.Goals as goal

pub returns-in_ok-copy-in-Some : goal.returns-in_ok-copy-in-Some
returns-in_ok-copy-in-Some c = λ bag renewal of aim.
    ap Some c.in_ok-copy-in-Some.ensures
    ∙ first_is bag c.args.facts.now of renewal c.args.target.now.rules c.args.target.now.keeps c.files.result.now _
    aim.rules aim.keeps c.files.ensures c.in-Some.ensures

pub returns-in-None : goal.returns-in-None
returns-in-None c = λ bag renewal of aim.
    first_is bag c.args.facts.now of renewal c.args.target.now.rules c.args.target.now.keeps c.files.result.now _
    aim.rules aim.keeps c.files.ensures c.in-None.ensures
