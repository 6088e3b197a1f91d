use Rattle.bag_cli.proofs.Common.{[], ◌∷◌, refl, option_copied, Entered, Left}
use Rattle.bag_cli.proofs.Checks.{check_by_status, next_check, visited_check}
use Rattle.bag_program.proofs.Turns.{added}
use Rattle.bag_cli.proofs.work.Work.check_opened.Goals as goal

pub returns : goal.returns
returns g c =
    let plan = c.args.self.now.plan.now in
    let profile = option_copied c.args.profile in
    let name = c.args.name.now in
    let checked = c.check_tree-tree.result.1 in (
      _,
      added _ _ _ (Entered name ∷ []) (Left _ ∷ []) c.enter_tree.ensures c.leave.ensures,
      check_by_status plan profile _ name _ _ _ checked c.whole_status.result c.whole_status.ensures
          (next_check plan profile _ name _ _ _ checked
          (visited_check plan profile _ _ _ name _ _ checked refl c.check_tree-tree.ensures)),
    )
