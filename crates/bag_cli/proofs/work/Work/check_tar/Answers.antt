use Rattle.bag_cli.proofs.Common.{◌∷◌, [], inl, refl, err_from_is_err_and, option_copied, NotGiven, Opened}
use Rattle.bag_tar.specs.TarTree.{state_of}
use Rattle.bag_cli.proofs.Tars.{no_tree_of_same, told_last, told_whole, tree_checked, tree_of_same}
use Rattle.bag_program.proofs.Turns.{added}
use Rattle.bag_cli.proofs.work.Work.check_tar.Goals as goal

pub returns-in_err-archive : goal.returns-in_err-archive
returns-in_err-archive g c =
    let p = err_from_is_err_and c.from_residual.result c.from_residual.ensures.1 in (
      NotGiven c.args.name.now ∷ [],
      c.in_err-archive.ensures.refused,
      rw p.1 (inl (refl {a = g.O.Out.state c.args.out.now}, refl {a = NotGiven c.args.name.now ∷ []})),
    )

pub returns-in-Ok : goal.returns-in-Ok
returns-in-Ok g c =
    let plan = c.args.self.now.plan.now in
    let profile = option_copied c.args.profile in
    let name = c.args.name.now in
    let done = c.check_opened.ensures in
    let tree = c.in-Ok.ensures in (
      Opened name ∷ done.0,
      added _ _ _ (Opened name ∷ []) done.0 c.in_ok-archive.ensures.opened done.1,
      tree_checked plan profile _ _ name _ _ done.0 c.check_opened.result
          (tree_of_same _ _ (state_of g.D.Archive.Archive.state c.in-Ok.tree) c.in_ok-archive.ensures.state
          (record { bag = tree.bag; honest = tree.honest; new = tree.new; no_failure = tree.no_failure })) done.2,
    )

pub returns-in_err-tell_unopened-in-Err : goal.returns-in_err-tell_unopened-in-Err
returns-in_err-tell_unopened-in-Err g c =
    let p =
    err_from_is_err_and c.from_residual-in_err-tell_unopened-in-Err.result
    c.from_residual-in_err-tell_unopened-in-Err.ensures.1 in
    let name = c.args.name.now in
    let done = c.in_err-tell_unopened-in-Err.ensures in
    let none = c.in-Err.ensures in (
      Opened name ∷ done.0,
      added _ _ _ (Opened name ∷ []) done.0 c.in_ok-archive.ensures.opened done.1,
      rw p.1 (told_last c.args.self.now.plan.now (option_copied c.args.profile) _ _ c.in-Err.stop name _ _ done.0
          (no_tree_of_same _ _ (g.D.Archive.Archive.state c.in-Err.archive) c.in-Err.stop c.in_ok-archive.ensures.state
          (record { same = none.refused.0; cause = none.refused.1; at = none.at }))
          c.in_err-tell_unopened-in-Err.field-0.0 done.2),
    )

pub returns-in_ok-tell_unopened-in-Err : goal.returns-in_ok-tell_unopened-in-Err
returns-in_ok-tell_unopened-in-Err g c =
    let name = c.args.name.now in
    let done = c.in_ok-tell_unopened-in-Err.ensures in
    let none = c.in-Err.ensures in (
      Opened name ∷ done.0,
      added _ _ _ (Opened name ∷ []) done.0 c.in_ok-archive.ensures.opened done.1,
      told_whole c.args.self.now.plan.now (option_copied c.args.profile) _ _ c.in-Err.stop name _ _ done.0
          (no_tree_of_same _ _ (g.D.Archive.Archive.state c.in-Err.archive) c.in-Err.stop c.in_ok-archive.ensures.state
          (record { same = none.refused.0; cause = none.refused.1; at = none.at }))
          c.in_ok-tell_unopened-in-Err.field-0 done.2,
    )
