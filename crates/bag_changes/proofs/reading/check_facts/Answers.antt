use Rattle.bag_tree.proofs.Calm.{nothing_asked}
use Rattle.bag_changes.proofs.ReadBag.{refused_by_info, refused_by_obstacle, refused_by_stage}
use Rattle.bag_changes.proofs.reading.check_facts.Goals as goal

pub returns-in-Err-clause-refused : goal.returns-in-Err-clause-refused
returns-in-Err-clause-refused g c =
    let old = g.T.Tree.state c.args.tree.now in
    refused_by_stage c.args.renewal.now c.args.facts.now old old c.in-Err.unchecked c.refusal.result
    c.in-Err.ensures.fault c.refusal.ensures (nothing_asked old)

pub returns-in-Err-check_obstacles-clause-refused : goal.returns-in-Err-check_obstacles-clause-refused
returns-in-Err-check_obstacles-clause-refused g c =
    refused_by_obstacle c.args.renewal.now c.args.facts.now (g.T.Tree.state c.args.tree.now)
    (g.T.Tree.state c.check_obstacles.new.tree) c.in-Err-check_obstacles.fault c.in_default.ensures.none
    (c.in-Err-check_obstacles.ensures.obstacle c.args.renewal.now c.target_of-target.ensures)

pub returns-in-Err-check_info-clause-refused : goal.returns-in-Err-check_info-clause-refused
returns-in-Err-check_info-clause-refused g c =
    let fine = c.in_default-check_obstacles.ensures in
    let renewal = c.args.renewal.now in
    let aim = c.target_of-target.ensures in
    refused_by_info renewal c.args.facts.now (g.T.Tree.state c.args.tree.now)
    (g.T.Tree.state c.check_obstacles.new.tree) c.in-Err-check_info.fault c.in_default.ensures.none
    (λ bag of deep. fine.free bag of deep renewal (aim bag of deep)) fine.way
    (λ bag of deep. fine.names bag of deep renewal (aim bag of deep))
    (λ bag of deep. c.in-Err-check_info.ensures.refused bag of deep (aim bag of deep)) fine.no_failure

pub returns-clause-target : goal.returns-clause-target
returns-clause-target g c =
    let fine = c.in_default-check_obstacles.ensures in
    let renewal = c.args.renewal.now in
    let aim = c.target_of-target.ensures in record {
      none = c.in_default.ensures.none;
      free = λ bag of deep. fine.free bag of deep renewal (aim bag of deep);
      names = λ bag of deep. fine.names bag of deep renewal (aim bag of deep);
      info = λ bag of deep. c.in_default-check_info.ensures.good bag of deep (aim bag of deep);
      decided = aim;
    }
