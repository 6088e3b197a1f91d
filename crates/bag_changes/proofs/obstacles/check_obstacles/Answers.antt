use Rattle.bag_changes.proofs.Common.{subst}
use Rattle.std.specs.Prelude.{MatchOption}
use Rattle.bag_facts.specs.FactsOfBag.{IfBagRead}
use Rattle.bag_tree.proofs.Calm.{nothing_asked}
use Rattle.bag_changes.proofs.Obstructed.{hindered_by_facts}
use Rattle.bag_changes.specs.Obstacles.{CanNameFiles, IsFreeToChange, IsObstacle}
use Rattle.bag_changes.proofs.obstacles.check_obstacles.Goals as goal

pub returns-in-Ok-Some-clause-obstacle : goal.returns-in-Ok-Some-clause-obstacle
returns-in-Ok-Some-clause-obstacle g c = λ renewal aim.
    let old = g.T.Tree.state c.args.tree.now in
    hindered_by_facts c.args.facts.now renewal old old c.in-Ok-Some.fault
    (subst (λ found. IfBagRead c.args.facts.now (λ bag.
    MatchOption found (IsFreeToChange bag renewal) (IsObstacle bag renewal)))
    c.in-Ok-Some.field-0-is (λ bag of deep. c.in-Ok-Some.ensures bag of deep renewal (aim bag of deep)))
    (nothing_asked old)

pub returns-in-Ok-Some-obstacle_listed-clause-obstacle : goal.returns-in-Ok-Some-obstacle_listed-clause-obstacle
returns-in-Ok-Some-obstacle_listed-clause-obstacle g c = λ renewal aim.
    hindered_by_facts c.args.facts.now renewal (g.T.Tree.state c.args.tree.now)
    (g.T.Tree.state c.check_folders.new.tree) c.in-Ok-Some-obstacle_listed.fault
    (subst (λ found. IfBagRead c.args.facts.now (λ bag.
    MatchOption found (CanNameFiles bag renewal) (IsObstacle bag renewal)))
    c.in-Ok-Some-obstacle_listed.field-0-is
    (λ bag of deep. c.in-Ok-Some-obstacle_listed.ensures bag of deep renewal (aim bag of deep)))
    c.in_default.ensures.no_failure
