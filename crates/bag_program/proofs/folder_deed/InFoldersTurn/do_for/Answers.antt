use Rattle.bag_program.proofs.Common.{◌∷◌, [], inl, inr, refl, err_from_is_err_and, Entered, Left, NotGiven}
use Rattle.bag_program.proofs.Turns.{added}
use Rattle.bag_program.proofs.folder_deed.InFoldersTurn.do_for.Goals as goal

pub returns-in_err-tree-clause-done : goal.returns-in_err-tree-clause-done
returns-in_err-tree-clause-done g c =
    let p = err_from_is_err_and c.from_residual.result c.from_residual.ensures.1 in (
      NotGiven c.args.name.now ∷ [],
      c.in_err-tree.ensures.refused,
      rw p.1 (inr (refl {a = g.O.Out.state c.args.out.now}, refl {a = NotGiven c.args.name.now ∷ []})),
    )

pub returns-in_err-told-clause-done : goal.returns-in_err-told-clause-done
returns-in_err-told-clause-done g c =
    let p = err_from_is_err_and c.from_residual-in_err-told.result c.from_residual-in_err-told.ensures.1 in (
      _,
      added _ _ _ (Entered c.args.name.now ∷ []) (Left _ ∷ []) c.in_ok-tree.ensures.entered c.leave.ensures,
      rw p.1 (inl (
        c.in_err-told.field-0.0,
        record {
          new = _;
          visit = refl;
          done = rw c.in_ok-tree.ensures.state at (rw c.in_err-told.was at c.do_with-tree.ensures.done);
        },
      )),
    )

pub returns-clause-done : goal.returns-clause-done
returns-clause-done g c = (
  _,
  added _ _ _ (Entered c.args.name.now ∷ []) (Left _ ∷ []) c.in_ok-tree.ensures.entered c.leave.ensures,
  record {
    new = _;
    visit = refl;
    done = rw c.in_ok-tree.ensures.state at (rw c.in_ok-told.was at c.do_with-tree.ensures.done);
  },
)
