use Rattle.bag_cli.proofs.Common.{◌∷◌, [], inl, inr, refl, err_from_is_err_and, option_copied, Entered, Left, NotGiven}
use Rattle.bag_cli.proofs.Checks.{check_by_status, next_check, visited_check}
use Rattle.bag_program.proofs.Turns.{added}
use Rattle.bag_cli.proofs.work.Work.check_folder.Goals as goal

pub returns-in_err-tree : goal.returns-in_err-tree
returns-in_err-tree g c =
    let p = err_from_is_err_and c.from_residual.result c.from_residual.ensures.1 in (
      NotGiven c.args.directory.now ∷ [],
      c.in_err-tree.ensures.refused,
      rw p.1 (inr (refl {a = g.O.Out.state c.args.out.now}, inl (refl {a = NotGiven c.args.directory.now ∷ []}))),
    )

pub returns : goal.returns
returns g c =
    let plan = c.args.self.now.plan.now in
    let profile = option_copied c.args.profile in
    let name = c.args.directory.now in
    let checked = c.check_tree-tree.result.1 in (
      _,
      added _ _ _ (Entered name ∷ []) (Left _ ∷ []) c.in_ok-tree.ensures.entered c.leave.ensures,
      check_by_status plan profile _ name _ _ _ checked c.whole_status.result c.whole_status.ensures
          (next_check plan profile _ name _ _ _ checked
          (visited_check plan profile _ _ _ name _ _ checked c.in_ok-tree.ensures.state c.check_tree-tree.ensures)),
    )
