use Rattle.bag_changes.proofs.Common.{sym, ◌∙◌}
use Rattle.bag_changes.proofs.Obstructed.{at_none, can_name_files}
use Rattle.bag_changes.specs.Telling.{AreStillListed}
use Rattle.bag_changes.proofs.obstacles.obstacle_listed.Goals as goal

pub returns-in-None : goal.returns-in-None
returns-in-None c = λ bag of deep renewal aim.
    can_name_files bag renewal c.args.facts.now of
    (sym (c.in_ok-path.ensures bag renewal of aim) ∙ c.in_default.is)
    (at_none (AreStillListed bag renewal) _ c.in_ok-path-2.field-0 c.in-None.is
    (c.in_ok-path-2.ensures bag of deep renewal aim))
